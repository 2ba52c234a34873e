-- The octets passed hold two digits each, which are laid; an odd last digit comes behind them. Assumes nothing.
use Prim.Native.Nat.{◌*◌}
use Rattle.meaning.specs.Octets.{unpack}
use Rattle.octets.specs.DigitStrings.{decimals}
use Rattle.octets.proofs.Overs.{Pasted}
use Rattle.octets.proofs.Unpacking.{Decided}
use Rattle.writing.proofs.put_digits.Given as goal

abbrev pub invariant-loop-i : goal.invariant-loop-i
invariant-loop-i l = Decided l.count l.stored l.i × Pasted l.at (decimals (unpack l.count l.stored)) l.initial.buf l.buf (2 * l.i)
