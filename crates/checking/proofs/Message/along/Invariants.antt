-- `checking::along` meets its contract. Assumes nothing.
use Prim.Native.Nat.{◌-◌}
use lib.ListN.{length}
use mathlib.Core.Bool.{false}
use mathlib.Core.Path.{◌≡◌}
use Rattle.meaning.specs.Jobs.{comes}
use Rattle.checking.proofs.Walking.{Looking}
use Rattle.checking.proofs.Passes.{Passing}
use Rattle.checking.proofs.Message.along.Given as goal

abbrev pub invariant-search : goal.invariant-search
invariant-search l =
    Looking l.area l.attribute.number l.place l.end l.before × (l.again ≡ false)

abbrev pub decreases-search : goal.decreases-search
decreases-search l = l.end - l.before

abbrev pub invariant-loop-attribute : goal.invariant-loop-attribute
invariant-loop-attribute l =
    Passing (comes l.self.kind l.self.flags) l.area l.initial.list l.list l.seen l.place l.written

abbrev pub decreases-loop-attribute : goal.decreases-loop-attribute
decreases-loop-attribute l = length l.area - l.place
