-- Four pieces. Assumes nothing.
use Rattle.printing.proofs.Pieces.{kind_flags_pieces}
use Rattle.printing.proofs.kind_flags.Goals as goal

pub returns : goal.returns
returns c =
    kind_flags_pieces _ _ c.new.ensures c.with_decimal.ensures c.with.ensures c.with_decimal-2.ensures c.with-2.ensures
