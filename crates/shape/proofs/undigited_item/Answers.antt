-- No digits, as octets gives them. Assumes nothing.
use Rattle.shape.specs.Items.{undigited}
use Rattle.shape.proofs.undigited_item.Goals as goal

pub returns : goal.returns
unfolding undigited
returns c = rw c.none.ensures
