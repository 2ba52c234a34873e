-- The octets passed hold the halves before them, two to an octet; an odd last half comes behind them. Assumes nothing.
use Rattle.meaning.specs.Octets.{pack}
use Rattle.octets.specs.Parts.{Overlaid}
use Rattle.octets.specs.DigitStrings.{halves}
use Rattle.octets.proofs.pack_rest.Given as goal

abbrev pub invariant-loop-i : goal.invariant-loop-i
invariant-loop-i l = Overlaid (pack (halves l.text)) l.initial.buf l.buf l.i
