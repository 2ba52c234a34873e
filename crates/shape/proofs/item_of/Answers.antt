-- A number that comes to an arm has the shape of the arm; any other has no form of its own. Assumes nothing.
use mathlib.Core.Path.{refl, ◌∙◌}
use native.Mathlib.Omega.{arith}
use mathlib.Core.Logic.{inl, inr}
use Rattle.shape.specs.Codes.{code_of}
use Rattle.shape.proofs.Coded.{in_form, digits_arm, digits_behind, form_other}
use Rattle.shape.proofs.Items.{item_raw}
use Rattle.shape.proofs.item_of.Goals as goal
use Rattle.shape.proofs.item_of.Goals.{in-31-1, in_default+else-number-lt257+then-number-lt266, in_default-via-then-number-lt257, in_default-via-else-number-lt257+else-number-lt266}

pub four_item-requires : goal.four_item-requires
four_item-requires c = inl (in_form 0 _ c.in-6.is, refl)

pub four_item-requires-in-7 : goal.four_item-requires-in-7
four_item-requires-in-7 c = inl (in_form 1 _ c.in-7.is, refl)

pub four_item-requires-in-4 : goal.four_item-requires-in-4
four_item-requires-in-4 c = inr (in_form 2 _ c.in-4.is, refl)

pub four_item-requires-in-9 : goal.four_item-requires-in-9
four_item-requires-in-9 c = inr (in_form 3 _ c.in-9.is, refl)

pub hex_item-requires : goal.hex_item-requires
hex_item-requires c = in_form 7 _ c.in-44.is

pub qos_item-requires : goal.qos_item-requires
qos_item-requires c = in_form 8 _ c.in-261.is

pub octet_item-requires : goal.octet_item-requires
unfolding code_of
octet_item-requires c = (rw (in_form 9 _ c.in-266.is), refl)

pub octet_item-requires-in-267 : goal.octet_item-requires-in-267
unfolding code_of
octet_item-requires-in-267 c = (rw (in_form 10 _ c.in-267.is), refl)

pub octet_item-requires-in-268 : goal.octet_item-requires-in-268
unfolding code_of
octet_item-requires-in-268 c = (rw (in_form 11 _ c.in-268.is), refl)

pub any_digits-requires : goal.any_digits-requires
any_digits-requires c =
    elim c.in-31-1.branch [
      | in-31-1 w ↦ digits_arm _ w.in-31-1.keys5
      | in_default+else-number-lt257+then-number-lt266 w ↦ digits_behind _ w.in_default-1.rest (omega arith) (omega arith)
    ]

pub returns-in_default : goal.returns-in_default
returns-in_default c =
    c.raw_item.ensures ∙ item_raw _ _ _ (form_other _ c.in_default-1.rest (elim c.in_default.branch [
      | in_default-via-then-number-lt257 w ↦ inl (omega arith)
      | in_default-via-else-number-lt257+else-number-lt266 w ↦ inr (omega arith)
    ]))
