-- The entries passed stand over the start. Assumes nothing.
use Rattle.lines.proofs.Listing.{Entered}
use Rattle.lines.proofs.lay.Given as goal

abbrev pub invariant-loop-i : goal.invariant-loop-i
invariant-loop-i l = Entered l.behind l.list l.initial.text l.text l.i
