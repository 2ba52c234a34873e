-- The part that is lent is as long as the room allows. Assumes nothing.
use Rattle.printing.proofs.Lending.{check_lent}
use Rattle.printing.proofs.check_within.Goals as goal

pub returns : goal.returns
returns c = check_lent _ _ _ _ _ _ _ c.min-open.ensures c.check.ensures
