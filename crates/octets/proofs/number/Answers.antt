-- The octets are taken from the left: the number so far is that of the octets passed. Assumes nothing.
use native.Mathlib.Omega.{arith}
use Rattle.octets.proofs.Numbers.{summed_none, summed_room, summed_more}
use Rattle.octets.proofs.number.Goals as goal

pub loop-x-init : goal.loop-x-init
loop-x-init c = summed_none _ c.requires

pub overflow_mul-n : goal.overflow_mul-n
overflow_mul-n c = omega (arith, summed_room _ _ _ c.loop-x.invariant (omega arith))

pub loop-x-preserved : goal.loop-x-preserved
loop-x-preserved c = summed_more _ _ _ c.loop-x.invariant (omega arith) _ c.from.ensures (omega (arith, c.type_inv.s c.loop-x.x-index, c.from.ensures))
