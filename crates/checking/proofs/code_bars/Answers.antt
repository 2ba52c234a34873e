-- `checking::code_bars` meets its contract. Assumes nothing.
use mathlib.Core.Bool.{or-false}
use Rattle.meaning.specs.Codes.{code_bars}
use Rattle.checking.proofs.code_bars.Goals as goal

pub returns : goal.returns
unfolding code_bars
returns c = simp or-false
