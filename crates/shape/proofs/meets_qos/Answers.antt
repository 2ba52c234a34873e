-- The one release or the other. Assumes nothing.
use mathlib.Core.Path.{sym, ◌∙◌}
use Rattle.meaning.specs.Shapes.{meets}
use Rattle.shape.proofs.meets_qos.Goals as goal

pub returns-then-meets_release : goal.returns-then-meets_release
unfolding meets
returns-then-meets_release c = let e = sym c.meets_release.ensures ∙ c.if-meets_release.true in rw e

pub returns : goal.returns
unfolding meets
returns c = let e = sym c.meets_release.ensures ∙ c.if-meets_release.false in rw e c.meets_release-2.ensures
