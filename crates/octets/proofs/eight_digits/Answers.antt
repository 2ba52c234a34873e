-- The octets are digits where none is beyond 9 when it is turned. Assumes nothing.
use mathlib.Core.Path.{ap, ◌∙◌}
use Rattle.octets.specs.DigitStrings.{turned_of, below_ten}
use Rattle.octets.proofs.Gathering.{digits_turned}
use Rattle.octets.proofs.eight_digits.Goals as goal

pub returns : goal.returns
returns c = c.beyond.ensures ∙ ap below_ten (c.turned.ensures ∙ ap turned_of c.number_of_eight.ensures) ∙ digits_turned _
