-- `checking::Message::wanted` meets its contract. Assumes nothing.
use borrow.Author.Tests.{lt-ltb, le-ltb}
use Rattle.checking.specs.Lists.{wanted_by}
use Rattle.checking.proofs.Message.wanted.Goals as goal

pub returns-then-number-lt256 : goal.returns-then-number-lt256
unfolding wanted_by
returns-then-number-lt256 c = rw (lt-ltb _ 256 c.if-number-lt256.true) c.code_wants.ensures

pub returns : goal.returns
unfolding wanted_by
returns c = rw (le-ltb _ 256 c.if-number-lt256.false, c.asks_pdp_type.ensures 0)
