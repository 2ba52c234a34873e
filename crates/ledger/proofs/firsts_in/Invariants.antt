-- The walk over the items. Assumes nothing.
use Rattle.std.proofs.Common.{◌-◌}
use Rattle.ledger.proofs.Places.{Looking}
use Rattle.ledger.proofs.firsts_in.Given as goal

abbrev pub invariant-loop-item : goal.invariant-loop-item
invariant-loop-item l = Looking l.sheet (l.count - l._item) l.place l.firsts
