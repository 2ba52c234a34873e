-- By the case of the answer. Assumes nothing.
use native.Mathlib.Omega.{arith}
use mathlib.Core.Path.{refl}
use Rattle.printing.proofs.Shown.{rest_given, check_short, check_given, check_refused}
use Rattle.printing.proofs.check_line.Goals as goal

pub returns-in_default : goal.returns-in_default
returns-in_default c =
    let a = c.args in
    let w =
    check_short _ a.given.now a.all _ a.list.now _ _ _ (omega arith) c.put.ensures in
    record { start_laid = w.0; list_after = w.1 }

pub returns-in-Ok : goal.returns-in-Ok
returns-in-Ok c =
    let a = c.args in
    let w =
    check_given _ a.given.now a.all _ a.list.now
    (omega arith) c.from.ensures c.from-2.ensures (rest_given a.given.now) c.check_within.ensures
    c.in-Ok.is refl c.put_list.ensures in
    record { start_laid = w.0; list_after = w.1 }

pub returns-in-Err : goal.returns-in-Err
returns-in-Err c =
    let a = c.args in
    let w =
    check_refused _ a.given.now a.all _ a.list.now
    (omega arith) c.from.ensures c.from-2.ensures (rest_given a.given.now) c.check_within.ensures
    c.in-Err.is c.put_refusal.ensures in
    record { start_laid = w.0; list_after = w.1 }
