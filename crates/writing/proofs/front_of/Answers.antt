-- 20, 21, or that the items are to be judged. Assumes nothing.
use borrow.Author.Tests.{not-true, not-false}
use mathlib.Core.Path.{sym, ◌∙◌}
use native.Mathlib.Omega.{arith}
use Rattle.writing.proofs.Whole.{marked_nine, front_20, front_21, front_fit}
use Rattle.writing.proofs.front_of.Goals as goal

pub returns-then-not-is_marked : goal.returns-then-not-is_marked
returns-then-not-is_marked c = front_20 _ (sym c.is_marked.ensures ∙ not-true _ c.if-not-is_marked.true-raw)

pub bounds-sheet-5 : goal.bounds-sheet-5
bounds-sheet-5 c = omega (arith, marked_nine _ (sym c.is_marked.ensures ∙ not-false _ c.if-not-is_marked.false-raw))

pub bounds-sheet-6 : goal.bounds-sheet-6
bounds-sheet-6 c = omega (arith, marked_nine _ (sym c.is_marked.ensures ∙ not-false _ c.if-not-is_marked.false-raw))

pub returns-then-not-is_kind-are_flags : goal.returns-then-not-is_kind-are_flags
returns-then-not-is_kind-are_flags c =
    front_21 _ (sym c.is_marked.ensures ∙ not-false _ c.if-not-is_marked.false-raw) _ _ (rw c.from.ensures at c.is_kind.ensures)
    (rw c.from-2.ensures at c.are_flags.ensures) c.if-not-is_kind-are_flags.true-raw

pub returns : goal.returns
returns c =
    front_fit _ (sym c.is_marked.ensures ∙ not-false _ c.if-not-is_marked.false-raw) _ _ (rw c.from.ensures at c.is_kind.ensures)
    (rw c.from-2.ensures at c.are_flags.ensures) c.if-not-is_kind-are_flags.false-raw
