-- `area::is_kind` meets its contract. Assumes nothing.
use mathlib.Core.Path.{refl}
use Rattle.meaning.specs.Jobs.{is_kind}
use Rattle.area.proofs.is_kind.Goals as goal

pub returns : goal.returns
unfolding is_kind
returns c = refl
