-- Fifteens, and the count 0. Assumes nothing.
use mathlib.Core.Path.{refl}
use Rattle.meaning.specs.Answers.{over}
use Rattle.octets.specs.DigitStrings.{padded, digits_of}
use Rattle.octets.proofs.Digits.none.Goals as goal

pub returns : goal.returns
unfolding digits_of padded over
returns c = refl
