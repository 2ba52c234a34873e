-- `reading::sheet_head` meets its contract. Assumes nothing.
use Rattle.reading.proofs.Laying.{head_laid}
use Rattle.reading.proofs.sheet_head.Goals as goal

pub returns : goal.returns
returns c = head_laid _ _ _ _ c.u16_octets-many.ensures
