-- `reading::put_names` meets its contract. Assumes nothing.
use Rattle.reading.proofs.Laying.{plain_names, gpp_names}
use Rattle.reading.proofs.put_names.Goals as goal

pub returns-then-number-lt256 : goal.returns-then-number-lt256
returns-then-number-lt256 c = plain_names _ _ _ c.if-number-lt256.true c.requires.1

pub returns : goal.returns
returns c = gpp_names _ _ _ c.if-number-lt256.false c.requires.1
