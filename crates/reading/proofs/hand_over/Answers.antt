-- `reading::hand_over` meets its contract. Assumes nothing.
use native.Mathlib.Omega.{arith}
use Rattle.octets.proofs.Overs.{laid_keeps, copied_part}
use Rattle.reading.proofs.Whole.{no_room, both_laid}
use Rattle.reading.proofs.hand_over.Goals as goal

pub returns-then-sheet-needed : goal.returns-then-sheet-needed
returns-then-sheet-needed c = no_room _ _ _ _ _ c.if-sheet-needed.true

pub returns : goal.returns
returns c =
    let room = c.if-sheet-needed.false in
    let first = c.copy_at.ensures.holds in
    let behind = copied_part _ _ _ _ _ (omega arith) (laid_keeps _ _ _ _ _ first room) c.copy_from_slice.ensures.after in
    both_laid _ _ _ _ _ _ _ _ c.sheet_head-head.ensures room first behind
