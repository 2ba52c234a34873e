-- The form is 0 or 1. Assumes nothing.
use mathlib.Core.Path.{◌∙◌}
use Rattle.shape.specs.Items.{raw_item}
use Rattle.shape.proofs.raw_item.Goals as goal

pub returns : goal.returns
unfolding raw_item
returns c = c.undigited_item.ensures ∙ rw c.plain_form.ensures
