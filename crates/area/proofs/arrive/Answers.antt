-- `area::arrive` meets its contract. Assumes nothing.
use borrow.Author.Tests.{not-true, not-false}
use mathlib.Core.Path.{sym, ◌∙◌}
use Rattle.area.proofs.Arriving.{bad_kind, bad_flags, all_fit}
use Rattle.area.proofs.arrive.Goals as goal

pub returns-then-not-is_kind : goal.returns-then-not-is_kind
returns-then-not-is_kind c = bad_kind _ _ _ (sym c.is_kind.ensures ∙ not-true _ c.if-not-is_kind.true-raw)

pub returns-then-not-are_flags : goal.returns-then-not-are_flags
returns-then-not-are_flags c =
    bad_flags _ _ _ (sym c.is_kind.ensures ∙ not-false _ c.if-not-is_kind.false-raw)
    (sym c.are_flags.ensures ∙ not-true _ c.if-not-are_flags.true-raw)

pub returns : goal.returns
returns c =
    all_fit _ _ _ (sym c.is_kind.ensures ∙ not-false _ c.if-not-is_kind.false-raw)
    (sym c.are_flags.ensures ∙ not-false _ c.if-not-are_flags.false-raw)
    c.if-area-gt4076.false
