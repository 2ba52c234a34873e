-- The octets are taken from the left: the number so far is that of the octets passed. Assumes nothing.
use Rattle.octets.proofs.Numbers.{Summed}
use Rattle.octets.proofs.number.Given as goal

abbrev pub invariant-loop-x : goal.invariant-loop-x
invariant-loop-x l = Summed l.s l.x-index l.n
