-- Entries with a space behind each, and the line's end in place of the last. Assumes nothing.
use native.Mathlib.Omega.{arith}
use mathlib.Core.Path.{sym, ◌∙◌}
use Rattle.printing.proofs.Pieces.{list_none, list_not, list_there}
use Rattle.printing.proofs.put_list.Goals as goal

pub returns-then-min-eq0 : goal.returns-then-min-eq0
returns-then-min-eq0 c =
    list_none _ _ _ _ _ (sym c.min.ensures ∙ omega arith) c.put.ensures

pub returns-then-n-eq0 : goal.returns-then-n-eq0
returns-then-n-eq0 c =
    let a = c.args in
    list_not a.list.now a.out.now a.count _ _ (λ e. omega (arith, c.min.ensures)) c.entries-n.ensures (omega arith)

pub returns : goal.returns
returns c =
    let a = c.args in
    list_there a.list.now a.out.now a.count _ _ (λ e. omega (arith, c.min.ensures)) c.entries-n.ensures _ _ (λ e. omega arith) c.copy_at.ensures
