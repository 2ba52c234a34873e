-- The lines of the entries, or of a refusal. Assumes nothing.
use native.Mathlib.Omega.{arith}
use mathlib.Core.Path.{refl}
use mathlib.Core.List.{[]}
use Rattle.printing.proofs.Shown.{rest_given, check_short, check_given, check_refused}
use Rattle.printing.proofs.check.Goals as goal

pub returns-in_default : goal.returns-in_default
returns-in_default c =
    let a = c.args in
    (check_short _ a.given.now a.all _ [] _ _ _ (omega arith) c.put.ensures).0

pub returns-in-Ok : goal.returns-in-Ok
returns-in-Ok c =
    let a = c.args in
    (check_given _ a.given.now a.all 6126 _
    (omega arith) c.from.ensures c.from-2.ensures (rest_given a.given.now) c.check.ensures
    c.in-Ok.is refl c.entries.ensures).0

pub returns-in-Err : goal.returns-in-Err
returns-in-Err c =
    let a = c.args in
    (check_refused _ a.given.now a.all 6126 _
    (omega arith) c.from.ensures c.from-2.ensures (rest_given a.given.now) c.check.ensures
    c.in-Err.is c.put_refusal.ensures).0
