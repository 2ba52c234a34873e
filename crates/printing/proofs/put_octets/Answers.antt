-- Kind and flags, and the area behind them. Assumes nothing.
use native.Mathlib.Omega.{arith}
use mathlib.Core.Path.{refl}
use Rattle.printing.proofs.Pieces.{octets_there, octets_not}
use Rattle.printing.proofs.put_octets.Goals as goal

pub returns-then-out-lt2 : goal.returns-then-out-lt2
returns-then-out-lt2 c = octets_not _ _ _ _ (omega arith)

pub returns-then-out-area : goal.returns-then-out-area
returns-then-out-area c = octets_not _ _ _ _ (omega arith)

pub returns : goal.returns
returns c = octets_there _ _ _ _ _ _ _ _ _ refl (omega arith) c.copy_at.ensures c.copy_at-2.ensures
