-- A profile that meets the shape, or not. Assumes nothing.
use borrow.Author.Tests.{not-true, not-false}
use mathlib.Core.Path.{sym, ◌∙◌}
use native.Mathlib.Omega.{arith}
use Rattle.meaning.specs.Shapes.{qos}
use Rattle.shape.proofs.Items.{missed, release_there, item_qos}
use Rattle.shape.proofs.qos_item.Goals as goal

pub returns-then-not-meets_qos : goal.returns-then-not-meets_qos
returns-then-not-meets_qos c = c.raw_item.ensures ∙ missed _ _ _ qos c.requires (sym c.meets_qos.ensures ∙ not-true _ c.if-not-meets_qos.true-raw)

pub overflow_sub-v : goal.overflow_sub-v
overflow_sub-v c = omega (arith, release_there c.args.number _ c.args.value c.requires (sym c.meets_qos.ensures ∙ not-false _ c.if-not-meets_qos.false-raw))

pub returns : goal.returns
returns c = c.undigited_item.ensures ∙ item_qos _ _ _ c.requires (sym c.meets_qos.ensures ∙ not-false _ c.if-not-meets_qos.false-raw) _ c.packed_len.ensures
