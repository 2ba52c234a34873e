-- Nine octets an entry. Assumes nothing.
use Rattle.std.proofs.Common.{arith}
use Rattle.lines.proofs.Listing.{entries_laid, entries_not}
use Rattle.lines.proofs.entries.Goals as goal

pub returns-then-text-first : goal.returns-then-text-first
returns-then-text-first c = entries_not _ _ _ _ _ c.min.ensures (omega arith)

pub returns : goal.returns
returns c = entries_laid _ _ _ _ _ c.min.ensures _ (omega arith) c.lay.ensures
