-- No octets change nothing. Assumes nothing.
use native.Mathlib.Omega.{arith}
use Rattle.octets.proofs.Overs.{overlaid_none, overlaid_all}
use Rattle.octets.proofs.copy.Goals as goal

pub returns-in-0 : goal.returns-in-0
returns-in-0 c = overlaid_all _ _ _ 0 (overlaid_none _ _ c.requires) (omega (arith, c.in-0.is))
