-- `area::vendor_step` meets its contract: each answer is one law of `Found`. Assumes nothing.
use native.Mathlib.Omega.{arith}
use mathlib.Core.Path.{sym, ap, ◌∙◌}
use Rattle.area.specs.Answers.{step_of}
use Rattle.area.proofs.Found.{vendor_other, vendor_sub}
use Rattle.area.proofs.vendor_step.Goals as goal

pub returns-then-u32_at-ne-VENDOR_3GPP : goal.returns-then-u32_at-ne-VENDOR_3GPP
returns-then-u32_at-ne-VENDOR_3GPP c =
    c.attribute.ensures
    ∙ ap (step_of _) (sym (vendor_other _ _ _ (omega arith) (λ e. c.if-u32_at-ne-VENDOR_3GPP.true (c.u32_at.ensures ∙ e))))

pub returns-then-m-size : goal.returns-then-m-size
returns-then-m-size c =
    c.attribute-then-m-size.ensures
    ∙ rw c.gpp.ensures
    (ap (step_of _)
    (sym
    (vendor_sub _ _ _ (omega arith) (sym c.u32_at.ensures ∙ c.if-u32_at-ne-VENDOR_3GPP.false) (omega arith) (omega arith) (omega arith))))
