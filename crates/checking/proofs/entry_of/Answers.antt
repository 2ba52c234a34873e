-- `checking::entry_of` meets its contract. Assumes nothing.
use Rattle.checking.proofs.Rules.{entry_plain, entry_3gpp}
use Rattle.checking.proofs.entry_of.Goals as goal

pub returns-then-n-lt256 : goal.returns-then-n-lt256
returns-then-n-lt256 c = entry_plain _ _ _ c.if-n-lt256.true

pub returns : goal.returns
returns c = entry_3gpp _ _ _ c.if-n-lt256.false
