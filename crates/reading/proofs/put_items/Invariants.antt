-- `reading::put_items` meets its contract: its loop has counted the items of the attributes before `place`, and laid them.
-- Assumes nothing.
use Prim.Native.Nat.{◌-◌}
use lib.ListN.{length}
use Rattle.reading.proofs.Passes.{Passing}
use Rattle.reading.proofs.put_items.Given as goal

abbrev pub invariant-loop-attribute : goal.invariant-loop-attribute
invariant-loop-attribute l = Passing l.area l.initial.buf l.buf l.place l.count l.written

abbrev pub decreases-loop-attribute : goal.decreases-loop-attribute
decreases-loop-attribute l = length l.area - l.place
