-- `checking::search_end` meets its contract. Assumes nothing.
use Rattle.checking.proofs.Rules.{end_at_place, end_at_once}
use Rattle.checking.proofs.search_end.Goals as goal

pub returns-then-once_only : goal.returns-then-once_only
returns-then-once_only c = end_at_place _ _ _ c.once_only.ensures c.if-once_only.true

pub returns-else-once_only : goal.returns-else-once_only
returns-else-once_only c = end_at_once _ _ _ c.once_only.ensures c.if-once_only.false
