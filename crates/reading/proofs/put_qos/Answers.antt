-- `reading::put_qos` meets its contract. Assumes nothing.
use Rattle.reading.proofs.Laying.{qos_put}
use Rattle.reading.proofs.put_qos.Goals as goal

pub returns : goal.returns
returns c = qos_put _ _ _ _ _ _ _ _ c.release_of.ensures c.part.ensures c.packed_len.ensures c.requires.1 c.copy_at.ensures.holds c.pack_at.ensures.holds
