-- An octet that meets the shape, or not. Assumes nothing.
use borrow.Author.Tests.{not-true, not-false}
use mathlib.Core.Path.{sym, ◌∙◌}
use native.Mathlib.Omega.{arith}
use Rattle.shape.proofs.Items.{octet_missed, octet_there, item_octet}
use Rattle.shape.proofs.octet_item.Goals as goal

pub returns-then-not-meets_code : goal.returns-then-not-meets_code
returns-then-not-meets_code c = c.raw_item.ensures ∙ octet_missed _ _ _ _ c.requires.0 c.requires.1 (sym c.meets_code.ensures ∙ not-true _ c.if-not-meets_code.true-raw)

pub bounds-v-0 : goal.bounds-v-0
bounds-v-0 c =
    omega (arith, octet_there c.args.number _ c.args.value _ c.requires.0 c.requires.1 (sym c.meets_code.ensures ∙ not-false _ c.if-not-meets_code.false-raw))

pub returns : goal.returns
returns c =
    c.undigited_item.ensures ∙ item_octet _ _ _ _ c.requires.0 c.requires.1 (sym c.meets_code.ensures ∙ not-false _ c.if-not-meets_code.false-raw) _ c.octet_of.ensures
