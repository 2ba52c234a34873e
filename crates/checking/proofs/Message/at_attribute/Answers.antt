-- `checking::at_attribute` meets its contract. Assumes nothing.
use Rattle.checking.proofs.Passes.{broken_laid, broken_none}
use Rattle.checking.proofs.Message.at_attribute.Goals as goal

pub returns-then-met-offending : goal.returns-then-met-offending
returns-then-met-offending c =
    broken_none _ _ _ _ _ _ _ _ c.meets-met.ensures
    c.offends-offending.ensures c.barred-bars.ensures _ _
    c.if-met-offending.true

pub returns : goal.returns
returns c =
    broken_laid _ _ _ _ _ _ _ _ c.meets-met.ensures
    c.offends-offending.ensures c.barred-bars.ensures _ _ _ _ _ _ _ _ _ _
    c.put-first.ensures c.put-second.ensures c.put-third.ensures c.put.ensures
