-- Fewer than two octets are no kind and flags. Assumes nothing.
use Rattle.std.proofs.Common.{arith}
use Rattle.filing.proofs.Alike.{too_short}
use Rattle.filing.proofs.came_back.Goals as goal

pub returns-in_default : goal.returns-in_default
returns-in_default c = too_short c.args.taken.now c.args.area.now _ _ (omega arith)
