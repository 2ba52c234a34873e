-- Another form than that of a value as it stands, a value that meets its shape, or what an attribute carries. Assumes nothing.
use mathlib.Core.Path.{sym, ◌∙◌}
use native.Mathlib.Omega.{arith}
use Rattle.item.proofs.Judging.{raw_other, raw_met}
use Rattle.item.proofs.is_raw.Goals as goal

pub returns-then-form-plain_form : goal.returns-then-form-plain_form
returns-then-form-plain_form c = raw_other _ _ _ _ (λ e. c.if-form-plain_form.true (e ∙ sym c.plain_form.ensures))

pub returns-then-meets_code : goal.returns-then-meets_code
returns-then-meets_code c = raw_met _ _ _ _ (omega arith) (sym c.meets_code.ensures ∙ c.if-meets_code.true)
