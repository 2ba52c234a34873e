-- Too few, too many, no digits, or digits. Assumes nothing.
use mathlib.Core.Path.{sym, ◌∙◌}
use native.Mathlib.Omega.{arith}
use Rattle.meaning.specs.Shapes.{digits}
use Rattle.shape.proofs.Meeting.{digits_few, digits_many}
use Rattle.shape.proofs.Items.{missed, item_digits}
use Rattle.shape.proofs.digits_item.Goals as goal

pub returns-then-v-least : goal.returns-then-v-least
returns-then-v-least c = c.raw_item.ensures ∙ missed _ _ _ (digits _ _) c.requires (sym (digits_few _ _ _ (omega arith)))

pub returns-then-most-v : goal.returns-then-most-v
returns-then-most-v c = c.raw_item-then-most-v.ensures ∙ missed _ _ _ (digits _ _) c.requires (sym (digits_many _ _ _ (omega arith)))

pub returns : goal.returns
returns c = item_digits _ _ _ _ _ c.requires (omega arith) (omega arith) _ c.digits_of-digits.ensures c.if-digits-eq0.false
