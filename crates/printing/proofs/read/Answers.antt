-- The sheet as it is, or a line. Assumes nothing.
use native.Mathlib.Omega.{arith}
use Rattle.printing.proofs.Shown.{rest_given, read_short, sheet_printed, refusal_printed}
use Rattle.printing.proofs.read.Goals as goal

pub returns-in_default : goal.returns-in_default
returns-in_default c =
    let a = c.args in
    (read_short _ a.given.now a.all _ a.out.now _ _ _ (omega arith) c.put.ensures).0

pub returns-in-Ok : goal.returns-in-Ok
returns-in-Ok c =
    let a = c.args in
    sheet_printed a.given.now a.all _
    (omega arith) c.from.ensures c.from-2.ensures (rest_given a.given.now) c.read.ensures c.in-Ok.is

pub returns-in-Err : goal.returns-in-Err
returns-in-Err c =
    let a = c.args in
    refusal_printed a.given.now a.all _
    (omega arith) c.from.ensures c.from-2.ensures (rest_given a.given.now) c.read.ensures c.in-Err.is c.put_refusal.ensures
