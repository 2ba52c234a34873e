-- A part of a slice: past its end, to its end, and before it. Assumes nothing.
use mathlib.Core.Path.{sym}
use native.Mathlib.Nat.{add-sub_cancel_left}
use native.Mathlib.Omega.{arith}
use Rattle.octets.specs.Parts.{part_of}
use Rattle.octets.proofs.Parts.{part_past, part_to_end}
use Rattle.octets.proofs.part.Goals as goal

pub returns-then-s-at : goal.returns-then-s-at
returns-then-s-at c = let a = c.args in sym (part_past a.s.now a.at a.len (omega arith))

pub returns-then-s-at-2 : goal.returns-then-s-at-2
returns-then-s-at-2 c = let a = c.args in part_to_end a.s.now a.at a.len (omega arith)

pub returns : goal.returns
unfolding part_of
returns c = let a = c.args in rw (add-sub_cancel_left a.at a.len)
