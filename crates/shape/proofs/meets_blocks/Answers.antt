-- The three tests of the shape. Assumes nothing.
use mathlib.Core.Path.{refl}
use Rattle.meaning.specs.Shapes.{meets}
use Rattle.shape.proofs.meets_blocks.Goals as goal

pub returns : goal.returns
unfolding meets
returns c = refl
