-- A plain attribute, a 3GPP one. Assumes nothing.
use native.Mathlib.Omega.{arith}
use Rattle.area.proofs.Carrying.{plain_head_length, gpp_head_length}
use Rattle.area.proofs.head_len.Goals as goal

pub returns-then-number-lt256 : goal.returns-then-number-lt256
returns-then-number-lt256 c = plain_head_length _ (omega arith)

pub returns-else-number-lt256 : goal.returns-else-number-lt256
returns-else-number-lt256 c = gpp_head_length _ (omega arith)
