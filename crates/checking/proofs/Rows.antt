-- The row of a kind in the presence table. Assumes nothing.
use mathlib.Core.Path.{◌≡◌}
use mathlib.Core.List.{List}
use Prim.Native.Nat.{ℕ}
use lib.Dec.{T, leb}
use borrow.Author.Tests.{le-leb}
use Rattle.meaning.specs.Jobs.{is_kind, Context}
use Rattle.meaning.proofs.Tests.{both, passes, is_true}
use Rattle.presence.specs.Rows.{row_of}
use Rattle.presence.proofs.Rows.{row_long, row_says}
use Rattle.checking.specs.Table.{Known, Row}

-- a known kind, as the meaning tests it
pub known_kind : (kind : ℕ) → Known kind → T (is_kind kind)
unfolding is_kind
known_kind kind k =
    both (leb 1 kind) (leb kind 6) (passes (leb 1 kind) (le-leb 1 kind k.least)) (passes (leb kind 6) (le-leb kind 6 k.most))

-- what `presence::row_of` gives for a known kind is its row
pub row_known : (c : Context) (codes : List ℕ) → Known c.kind → codes ≡ row_of c.kind → Row c codes
row_known c codes k e =
    let true_kind = is_true (is_kind c.kind) (known_kind c.kind k) in
    rw e (record { long = row_long c true_kind; says = row_says c true_kind })
