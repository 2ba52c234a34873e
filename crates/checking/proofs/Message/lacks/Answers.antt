-- `checking::Message::lacks` meets its contract. Assumes nothing.
use mathlib.Core.Path.{refl}
use Rattle.meaning.specs.Codes.{code_demands}
use Rattle.checking.proofs.Message.lacks.Goals as goal

pub returns : goal.returns
unfolding code_demands
returns c = refl
