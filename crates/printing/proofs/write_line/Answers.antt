-- By the kept octets, or by the case of the answer. Assumes nothing.
use native.Mathlib.Omega.{arith}
use Rattle.printing.proofs.Pieces.{text_shown}
use Rattle.printing.proofs.Shown.{write_cut, write_given, write_refused}
use Rattle.printing.proofs.write_line.Goals as goal

pub returns-then-sheet-all : goal.returns-then-sheet-all
returns-then-sheet-all c =
    let a = c.args in
    let w =
    write_cut _ _ a.sheet.now a.all _ a.area.now (omega arith) (rw (text_shown _ _ c.open_line.ensures) at c.put_start.ensures) in
    record { start_laid = w.0; area_after = w.1 }

pub returns-in-Ok : goal.returns-in-Ok
returns-in-Ok c =
    let a = c.args in
    let w =
    write_given _ _ a.sheet.now a.all _ a.area.now (omega arith) c.write_within.ensures
    c.in-Ok.is c.part-made.ensures c.put_area.ensures in
    record { start_laid = w.0; area_after = w.1 }

pub returns-in-Err : goal.returns-in-Err
returns-in-Err c =
    let a = c.args in
    let w =
    write_refused _ _ a.sheet.now a.all _ a.area.now (omega arith) c.write_within.ensures
    c.in-Err.is c.put_refusal.ensures in
    record { start_laid = w.0; area_after = w.1 }
