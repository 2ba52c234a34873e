-- The entries passed stand over the start. Assumes nothing.
use Rattle.std.proofs.Common.{rules, arith}
use Rattle.lines.proofs.Listing.{entered_none, entered_more, entered_all}
use Rattle.lines.proofs.lay.Goals as goal

pub loop-i-init : goal.loop-i-init
loop-i-init c = entered_none _ _ _ c.requires

pub loop-i-preserved : goal.loop-i-preserved
loop-i-preserved c =
    entered_more _ _ _ _ _ _ _ _ c.loop-i.invariant (omega arith) c.entry.ensures c.copy_at.ensures (search rules)

pub returns : goal.returns
returns c = entered_all _ _ _ _ _ c.loop-i.invariant (omega arith)
