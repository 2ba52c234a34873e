-- The number of the part of 2 octets, which fits the width. Assumes nothing.
use mathlib.Core.Path.{ap}
use native.Mathlib.Omega.{arith}
use lib.ListN.{length}
use Rattle.octets.proofs.Parts.{part_at_most, part_narrows}
use Rattle.octets.proofs.u16_at.Goals as goal

pub number-requires : goal.number-requires
number-requires c = let a = c.args in omega (arith, ap length c.part.ensures, part_at_most a.s.now a.at 2)

pub overflow_cast-result : goal.overflow_cast-result
overflow_cast-result c = let a = c.args in omega (arith, part_narrows a.s.now _ a.at 2 _ c.part.ensures c.number.ensures.fits)
