-- Of the octets that have passed, the last slash is known. Assumes nothing.
use Rattle.std.proofs.Common.{arith}
use Rattle.std.proofs.lemmas.Grind.{common_steps}
use Rattle.filing.proofs.Names.{found_none, found_more, found_all}
use Rattle.filing.proofs.folder_len.Goals as goal

pub loop-i-init : goal.loop-i-init
loop-i-init c = found_none _

pub loop-i-preserved : goal.loop-i-preserved
loop-i-preserved c = found_more _ _ _ c.loop-i.invariant _ (omega arith) (grind (arith, common_steps))

pub returns : goal.returns
returns c = found_all _ _ _ c.loop-i.invariant (omega arith)
