-- Zeros, and no octet of a text. Assumes nothing.
use Rattle.std.proofs.Common.{refl}
use Rattle.lines.proofs.Pieces.{text_none}
use Rattle.lines.proofs.Text.new.Goals as goal

pub returns : goal.returns
returns c = text_none refl refl
