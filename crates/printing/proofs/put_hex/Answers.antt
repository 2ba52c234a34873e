-- Laid, if it fits. Assumes nothing.
use native.Mathlib.Omega.{arith}
use mathlib.Core.Path.{refl}
use Rattle.printing.proofs.Pieces.{hex_there, hex_not}
use Rattle.printing.proofs.put_hex.Goals as goal

pub returns-then-out-n : goal.returns-then-out-n
returns-then-out-n c = hex_not _ _ (omega arith)

pub returns : goal.returns
returns c = hex_there _ _ _ _ refl (omega arith) c.lay_hex.ensures
