-- Each count of digits has its own way; more than fifteen are none. Assumes nothing.
use mathlib.Core.Path.{sym}
use native.Mathlib.Omega.{arith}
use Rattle.octets.proofs.Gathering.{gathered_long}
use Rattle.octets.proofs.gathered.Goals as goal

pub returns-in_default : goal.returns-in_default
returns-in_default c = sym (gathered_long _ (omega arith))
