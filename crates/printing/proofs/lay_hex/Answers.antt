-- The digits, and the line's end behind them. Assumes nothing.
use mathlib.Core.Path.{refl}
use Rattle.printing.proofs.Pieces.{hex_laid}
use Rattle.printing.proofs.lay_hex.Goals as goal

pub returns : goal.returns
returns c =
    hex_laid _ _ _ _ _ _ _ _ refl c.requires c.unpack_at.ensures c.copy_at.ensures
