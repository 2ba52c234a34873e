-- The fewest and the most digits are those of the number's shape. Assumes nothing.
use mathlib.Core.Path.{◌≡◌, sym, ap₂, ◌∙◌}
use mathlib.Core.Bool.{Bool, cond, ◌||◌}
use lib.Dec.{eqb}
use Rattle.meaning.specs.Shapes.{digits}
use Rattle.shape.proofs.Coded.{in_digits}
use Rattle.shape.proofs.any_digits.Goals as goal
use Rattle.shape.proofs.any_digits.Goals.{then-long, else-long, then-long-2, else-long-2}

pub digits_item-requires : goal.digits_item-requires
digits_item-requires c =
    let long : Bool = eqb c.args.number 31 || eqb c.args.number 257 in
    let least : c.if-long.digits_item ≡ cond long 1 5 =
    elim c.if-long.branch [ then-long w ↦ w.digits_item-is ∙ rw w.if-long.true | else-long w ↦ w.digits_item-is ∙ rw w.if-long.false ] in
    let most : c.if-long-2.digits_item ≡ cond long 15 6 =
    elim c.if-long-2.branch [ then-long-2 w ↦ w.digits_item-is ∙ rw w.if-long-2.true | else-long-2 w ↦ w.digits_item-is ∙ rw w.if-long-2.false ] in
    in_digits _ c.requires ∙ ap₂ digits (sym least) (sym most)
