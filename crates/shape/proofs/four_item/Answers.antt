-- Four octets, a number or an address, or not. Assumes nothing.
use borrow.Author.Tests.{ne_eqb}
use mathlib.Core.Path.{◌∙◌}
use mathlib.Core.Logic.{inl, inr}
use native.Mathlib.Omega.{arith}
use Rattle.meaning.specs.Shapes.{number, address, meets}
use Rattle.shape.proofs.Items.{missed, item_number, item_address}
use Rattle.shape.proofs.four_item.Goals as goal
use Rattle.shape.proofs.four_item.Goals.{then-form-eq2, else-form-eq2}

pub returns-then-v-ne4 : goal.returns-then-v-ne4
unfolding meets
returns-then-v-ne4 c =
    elim c.requires [
      | inl s ↦ c.raw_item.ensures ∙ missed _ _ _ number s.0 (ne_eqb _ 4 c.if-v-ne4.true)
      | inr s ↦ c.raw_item.ensures ∙ missed _ _ _ address s.0 (ne_eqb _ 4 c.if-v-ne4.true)
    ]

pub returns : goal.returns
returns c =
    c.undigited_item.ensures
    ∙ elim c.if-form-eq2.branch [
      | then-form-eq2 w ↦
          elim c.requires [
            | inl s ↦ rw (s.1, w.shown-is) (item_number _ _ _ s.0 c.if-v-ne4.false _ c.u32_at-n.ensures)
            | inr s ↦ absurd (omega (arith, s.1, w.if-form-eq2.true))
          ]
      | else-form-eq2 w ↦
          elim c.requires [
            | inl s ↦ absurd (omega (arith, s.1, w.if-form-eq2.false))
            | inr s ↦ rw (s.1, w.shown-is) (item_address _ _ _ s.0 c.if-v-ne4.false _ c.u32_at-n.ensures)
          ]
    ]
