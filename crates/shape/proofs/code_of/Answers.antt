-- A plain number, or a 3GPP number. Assumes nothing.
use mathlib.Core.Path.{sym, ◌∙◌}
use native.Mathlib.Omega.{arith}
use Rattle.shape.proofs.Codes.{code_plain, code_3gpp}
use Rattle.shape.proofs.code_of.Goals as goal

pub returns-then-number-lt256 : goal.returns-then-number-lt256
returns-then-number-lt256 c = c.plain_code.ensures ∙ sym (code_plain _ (omega arith))

pub returns : goal.returns
returns c = c.gpp_code.ensures ∙ sym (code_3gpp _ (omega arith))
