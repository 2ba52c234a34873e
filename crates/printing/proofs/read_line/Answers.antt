-- By the case of the answer. Assumes nothing.
use native.Mathlib.Omega.{arith}
use Rattle.printing.proofs.Shown.{rest_given, read_short, read_given, read_refused}
use Rattle.printing.proofs.read_line.Goals as goal

pub returns-in_default : goal.returns-in_default
returns-in_default c =
    let a = c.args in
    let w =
    read_short _ a.given.now a.all _ a.sheet.now _ _ _ (omega arith) c.put.ensures in
    record { start_laid = w.0; sheet_after = w.1 }

pub returns-in-Ok : goal.returns-in-Ok
returns-in-Ok c =
    let a = c.args in
    let w =
    read_given _ a.given.now a.all _ a.sheet.now
    (omega arith) c.from.ensures c.from-2.ensures (rest_given a.given.now) c.read_within.ensures
    c.in-Ok.is c.part.ensures c.put_hex.ensures in
    record { start_laid = w.0; sheet_after = w.1 }

pub returns-in-Err : goal.returns-in-Err
returns-in-Err c =
    let a = c.args in
    let w =
    read_refused _ a.given.now a.all _ a.sheet.now
    (omega arith) c.from.ensures c.from-2.ensures (rest_given a.given.now) c.read_within.ensures
    c.in-Err.is c.put_refusal.ensures in
    record { start_laid = w.0; sheet_after = w.1 }
