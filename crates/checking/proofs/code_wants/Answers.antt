-- `checking::code_wants` meets its contract. Assumes nothing.
use mathlib.Core.Path.{refl}
use Rattle.meaning.specs.Codes.{code_wants}
use Rattle.checking.proofs.code_wants.Goals as goal

pub returns : goal.returns
unfolding code_wants
returns c = refl
