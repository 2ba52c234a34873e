-- `area::step_at` meets its contract: each answer is one law of `Found`. Assumes nothing.
use native.Mathlib.Omega.{arith}
use mathlib.Core.Path.{sym, ap, ◌∙◌}
use Rattle.area.specs.Answers.{step_of}
use Rattle.area.proofs.Found.{found_nothing, found_past, found_vendor, found_plain}
use Rattle.area.proofs.step_at.Goals as goal

pub returns-then-area-place : goal.returns-then-area-place
returns-then-area-place c = ap (step_of _) (sym (found_nothing _ _ (omega arith)))

pub returns-then-left-size : goal.returns-then-left-size
returns-then-left-size c = c.refused-then-left-size.ensures ∙ ap (step_of _) (sym (found_past _ _ (omega arith) (omega arith) (omega arith)))

pub returns-then-t-eq26 : goal.returns-then-t-eq26
returns-then-t-eq26 c =
    c.vendor_step.ensures
    ∙ rw c.from-size.ensures
    (ap (step_of _) (sym (found_vendor _ _ (omega arith) (omega arith) (omega arith) (omega arith))))

pub returns-else-t-eq26 : goal.returns-else-t-eq26
returns-else-t-eq26 c =
    c.attribute.ensures
    ∙ rw (c.plain.ensures, c.from-size.ensures)
    (ap (step_of _) (sym (found_plain _ _ (omega arith) (omega arith) (omega arith) (omega arith))))
