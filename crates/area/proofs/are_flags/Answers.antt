-- `area::are_flags` meets its contract: the last test of the definition's list is followed by none. Assumes nothing.
use mathlib.Core.Bool.{or-false}
use Rattle.meaning.specs.Jobs.{are_flags}
use Rattle.area.proofs.are_flags.Goals as goal

pub returns : goal.returns
unfolding are_flags
returns c = simp or-false
