-- `checking::once_only` meets its contract. Assumes nothing.
use mathlib.Core.Bool.{or-false}
use Rattle.meaning.specs.Breaches.{once_only}
use Rattle.checking.proofs.once_only.Goals as goal

pub returns : goal.returns
unfolding once_only
returns c = rw c.is_listed_3gpp.ensures (simp or-false)
