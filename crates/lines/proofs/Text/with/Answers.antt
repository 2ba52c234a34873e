-- Laid behind the text, if it fits. Assumes nothing.
use Rattle.std.proofs.Common.{refl, sym, ◌∙◌, arith}
use Rattle.lines.proofs.Pieces.{followed_fits, followed_not}
use Rattle.octets.proofs.Overs.{fits_room}
use Rattle.lines.proofs.Text.with.Goals as goal

pub overflow_add-self : goal.overflow_add-self
overflow_add-self c = omega (arith, fits_room _ _ _ (sym c.copy_at.ensures.says ∙ c.if-copy_at.true))

pub returns-then-copy_at : goal.returns-then-copy_at
returns-then-copy_at c = followed_fits c.args.self _ _ _ c.copy_at.ensures c.if-copy_at.true refl refl

pub returns-else-copy_at : goal.returns-else-copy_at
returns-else-copy_at c = followed_not c.args.self _ _ _ c.copy_at.ensures c.if-copy_at.false refl refl
