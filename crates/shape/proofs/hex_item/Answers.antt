-- A text that meets the shape, or not. Assumes nothing.
use borrow.Author.Tests.{not-true, not-false}
use mathlib.Core.Path.{sym, ◌∙◌}
use Rattle.meaning.specs.Shapes.{hexadecimal, meets}
use Rattle.shape.proofs.Items.{missed, item_hexadecimal}
use Rattle.shape.proofs.hex_item.Goals as goal

pub returns-then-not-meets_hex : goal.returns-then-not-meets_hex
unfolding meets
returns-then-not-meets_hex c = c.raw_item.ensures ∙ missed _ _ _ hexadecimal c.requires (sym c.meets_hex.ensures ∙ not-true _ c.if-not-meets_hex.true-raw)

pub returns : goal.returns
unfolding meets
returns c = c.undigited_item.ensures ∙ item_hexadecimal _ _ _ c.requires (sym c.meets_hex.ensures ∙ not-false _ c.if-not-meets_hex.false-raw)
