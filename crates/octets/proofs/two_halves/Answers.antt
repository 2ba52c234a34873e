-- The pair of halves from twice the place on. Assumes nothing.
use native.Mathlib.Omega.{arith}
use Rattle.octets.proofs.Halves.{halves_two}
use Rattle.octets.proofs.two_halves.Goals as goal

pub returns : goal.returns
returns c = let a = c.args in halves_two a.text.now a.i (omega arith) _ _ _ c.half_of.ensures c.half_of-2.ensures c.pair.ensures
