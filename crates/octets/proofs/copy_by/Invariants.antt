-- The octets passed are laid over the start of the buffer. Assumes nothing.
use Prim.Native.Nat.{◌*◌}
use Rattle.octets.specs.Parts.{Overlaid}
use Rattle.octets.proofs.copy_by.Given as goal

abbrev pub invariant-loop-i : goal.invariant-loop-i
invariant-loop-i g l = Overlaid l.src l.initial.buf l.buf (g.row.N * l.i)
