-- Kind, flags and area, or a line. Assumes nothing.
use native.Mathlib.Omega.{arith}
use mathlib.Core.List.{[]}
use Rattle.printing.proofs.Pieces.{text_shown}
use Rattle.printing.proofs.Shown.{write_cut, write_given, write_refused}
use Rattle.printing.proofs.write.Goals as goal

pub returns-then-sheet-all : goal.returns-then-sheet-all
returns-then-sheet-all c =
    let a = c.args in
    (write_cut _ [] a.sheet.now a.all _ [] (omega arith) (rw (text_shown _ _ c.new.ensures) at c.put_start.ensures)).0

pub returns-in-Ok : goal.returns-in-Ok
returns-in-Ok c =
    let a = c.args in
    (write_given _ [] a.sheet.now a.all 4076 _ (omega arith) c.write.ensures
    c.in-Ok.is c.part-made.ensures c.put_octets.ensures).0

pub returns-in-Err : goal.returns-in-Err
returns-in-Err c =
    let a = c.args in
    (write_refused _ [] a.sheet.now a.all 4076 _ (omega arith) c.write.ensures
    c.in-Err.is c.put_refusal.ensures).0
