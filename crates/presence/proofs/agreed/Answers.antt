-- `presence::agreed` meets its contract: each row follows from the test by a law. Assumes nothing.
use Prim.Native.Nat.{ℕ}
use mathlib.Core.List.{[]}
use mathlib.Core.Path.{ap, ◌∙◌}
use native.Mathlib.Nat.{zero-add}
use Rattle.presence.specs.Rows.{row_by, by_kind}
use Rattle.presence.proofs.Rows.{row_of_test}
use Rattle.presence.proofs.agreed.Goals as goal

pub returns : goal.returns
returns c row h = row_of_test by_kind 0 6 _ [] c.requires row h ∙ ap (λ (k : ℕ). row_by (by_kind k)) (zero-add row)
