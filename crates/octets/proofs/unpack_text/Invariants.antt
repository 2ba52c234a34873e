-- The octets passed are written, two digits each. Assumes nothing.
use Prim.Native.Nat.{◌*◌}
use Rattle.meaning.specs.Octets.{unpack, text}
use Rattle.octets.specs.Parts.{Overlaid}
use Rattle.octets.proofs.unpack_text.Given as goal

abbrev pub invariant-loop-i : goal.invariant-loop-i
invariant-loop-i l = Overlaid (text (unpack l.n l.s)) l.initial.buf l.buf (2 * l.i)
