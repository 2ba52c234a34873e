-- The number of the part of 8 octets. Assumes nothing.
use mathlib.Core.Path.{ap}
use native.Mathlib.Omega.{arith}
use lib.ListN.{length}
use Rattle.octets.proofs.Parts.{part_at_most}
use Rattle.octets.proofs.u64_at.Goals as goal

pub number-requires : goal.number-requires
number-requires c = let a = c.args in omega (arith, ap length c.part.ensures, part_at_most a.s.now a.at 8)
