-- Five pieces, one behind the other. Assumes nothing.
use Rattle.lines.proofs.Pieces.{refusal_pieces}
use Rattle.lines.proofs.refusal.Goals as goal

pub returns : goal.returns
returns c =
    refusal_pieces _ _ c.new.ensures c.with.ensures c.with_decimal.ensures c.with-2.ensures c.with_decimal-2.ensures c.with-3.ensures
