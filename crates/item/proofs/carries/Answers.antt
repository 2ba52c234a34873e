-- A 3GPP value, a long one, a plain one, and one of type 26. Assumes nothing.
use mathlib.Core.Path.{◌∙◌}
use native.Mathlib.Omega.{arith}
use Rattle.item.proofs.Judging.{carries_3gpp, carries_long, carries_plain, carries_vendor}
use Rattle.item.proofs.carries.Goals as goal

pub returns-then-number-ge256 : goal.returns-then-number-ge256
returns-then-number-ge256 c = carries_3gpp _ _ (omega arith)

pub returns-then-value-gt253 : goal.returns-then-value-gt253
returns-then-value-gt253 c = carries_long _ _ (omega arith) (omega arith)

pub returns-then-number-ne26 : goal.returns-then-number-ne26
returns-then-number-ne26 c = carries_plain _ _ (omega arith) (omega arith) c.if-number-ne26.true

pub returns : goal.returns
returns c = c.other_vendor.ensures ∙ carries_vendor _ _ (omega arith) c.if-number-ne26.false
