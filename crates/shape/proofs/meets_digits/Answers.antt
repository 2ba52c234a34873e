-- Too few, too many, or a test of each octet. Assumes nothing.
use mathlib.Core.Path.{◌∙◌}
use native.Mathlib.Omega.{arith}
use Rattle.shape.proofs.Meeting.{digits_few, digits_many, digits_all}
use Rattle.shape.proofs.meets_digits.Goals as goal

pub returns-then-value-least : goal.returns-then-value-least
returns-then-value-least c = digits_few _ _ _ (omega arith)

pub returns-then-most-value : goal.returns-then-most-value
returns-then-most-value c = digits_many _ _ _ (omega arith)

pub returns : goal.returns
returns c = c.all_digits.ensures ∙ digits_all _ _ _ (omega arith) (omega arith)
