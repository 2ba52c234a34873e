-- `area::carried_at` meets its contract. Assumes nothing.
use borrow.Author.Rules.{rules}
use mathlib.Core.Path.{◌∙◌}
use native.Mathlib.Omega.{arith}
use Rattle.meaning.proofs.Framing.{head_eight}
use Rattle.area.proofs.Carrying.{carried_nothing, carried_here}
use Rattle.area.proofs.carried_at.Goals as goal

pub returns-then-area-place : goal.returns-then-area-place
returns-then-area-place c = search (rules, carried_nothing)

pub overflow_add-result : goal.overflow_add-result
overflow_add-result c = omega (arith, c.head_len-head.ensures, head_eight c.number_at-number.result)

pub returns : goal.returns
returns c =
    carried_here _ _ (omega arith) _ _ _ _ c.number_at-number.ensures
    c.head_len-head.ensures (c.from-size.ensures ∙ c.octet_at.ensures) c.rest.ensures
