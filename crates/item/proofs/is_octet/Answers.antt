-- A law for each code of form 7, and any other code. Assumes nothing.
use mathlib.Core.Path.{refl, sym, ◌∙◌}
use mathlib.Core.List.{[], ◌∷◌}
use Rattle.meaning.specs.Sheet.{form_of}
use Rattle.shape.specs.Codes.{code_of, shape_by}
use Rattle.shape.proofs.Codes.{alone}
use Rattle.shape.proofs.Coded.{past_not_in}
use Rattle.item.proofs.Held.{octet_held, hex_digit_held, decimal_digit_held}
use Rattle.item.proofs.Shaping.{shaped_as, shaped_not}
use Rattle.item.proofs.is_octet.Goals as goal

pub returns-in-70 : goal.returns-in-70
unfolding shape_by code_of form_of
returns-in-70 c = c.holds_one.ensures ∙ sym (hex_digit_held _ _) ∙ shaped_as _ 7 _ _ 70 c.in-70.is refl

pub returns-in-71 : goal.returns-in-71
unfolding shape_by code_of form_of
returns-in-71 c = sym (octet_held _ c.args.stored.now refl) ∙ shaped_as _ 7 _ _ 71 c.in-71.is refl

pub returns-in-72 : goal.returns-in-72
unfolding shape_by code_of form_of
returns-in-72 c = c.holds_one-in-72.ensures ∙ sym (decimal_digit_held _ _) ∙ shaped_as _ 7 _ _ 72 c.in-72.is refl

pub returns-in_default : goal.returns-in_default
unfolding code_of form_of
returns-in_default c = shaped_not _ 7 _ _ (70 ∷ 71 ∷ 72 ∷ []) tt (past_not_in (Unit {0}) _ (alone (70 ∷ 71 ∷ 72 ∷ [])) c.in_default.in_default-own.rest)
