-- The part that is lent is as long as the room allows. Assumes nothing.
use Rattle.printing.proofs.Lending.{write_lent}
use Rattle.printing.proofs.write_within.Goals as goal

pub returns : goal.returns
returns c = write_lent _ _ _ _ _ _ c.min-open.ensures c.write.ensures
