-- The part that is lent is as long as the room allows. Assumes nothing.
use Rattle.printing.proofs.Lending.{read_lent}
use Rattle.printing.proofs.read_within.Goals as goal

pub returns : goal.returns
returns c = read_lent _ _ _ _ _ _ _ _ c.min-open.ensures c.read.ensures
