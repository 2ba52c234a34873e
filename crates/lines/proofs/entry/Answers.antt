-- The digits stand over nine octets that are all the one behind. Assumes nothing.
use Rattle.lines.proofs.Listing.{entry_made}
use Rattle.lines.proofs.entry.Goals as goal

pub returns : goal.returns
returns c = let a = c.args in entry_made a.behind a.entry _ _ _ c.u32_octets.ensures c.unpack_at.ensures
