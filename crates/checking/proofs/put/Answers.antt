-- `checking::put` meets its contract. Assumes nothing.
use Rattle.checking.proofs.Laying.{put_not, put_there, put_past}
use Rattle.checking.proofs.put.Goals as goal

pub returns-then-not-stands : goal.returns-then-not-stands
returns-then-not-stands c = put_not _ _ _ _ c.if-not-stands.true

pub returns-then-at-list : goal.returns-then-at-list
returns-then-at-list c = put_there _ _ _ _ _ c.if-not-stands.false c.entry_of.ensures

pub returns : goal.returns
returns c = put_past _ _ _ _ c.if-not-stands.false c.if-at-list.false
