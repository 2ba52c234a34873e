-- Three pieces. Assumes nothing.
use Rattle.printing.proofs.Pieces.{open_pieces}
use Rattle.printing.proofs.open_line.Goals as goal

pub returns : goal.returns
returns c = open_pieces _ c.new.ensures c.with.ensures c.with_decimal.ensures c.with-2.ensures
