-- `reading::put_item` meets its contract. Assumes nothing.
use Rattle.reading.proofs.Laying.{item_put, stored_room}
use Rattle.reading.proofs.put_item.Goals as goal

pub put_stored-size-requires : goal.put_stored-size-requires
put_stored-size-requires c = (c.requires.1, stored_room _ _ _ _ c.requires.2)

pub returns : goal.returns
returns c = item_put _ _ _ _ _ _ c.requires.2 c.put_stored-size.ensures
