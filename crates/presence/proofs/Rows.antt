-- The row of a kind: it follows from the test over the table, and what stands at each place of it. Assumes nothing.
use mathlib.Core.Path.{◌≡◌, refl, ◌∙◌, sym, ap}
use mathlib.Core.Bool.{Bool, true, false, ◌&&◌}
use mathlib.Core.List.{List, [], ◌∷◌}
use Prim.Native.Nat.{ℕ, zero, suc, ◌+◌, ◌<◌, ◌≤◌}
use native.Mathlib.Nat.{add-zero, zero-add, add-suc, suc-add, le_of_suc-le-suc, not-suc-le-zero}
use native.Mathlib.Omega.{arith}
use lib.Dec.{T, leb}
use lib.ListN.{length, get_or}
use borrow.Author.Tests.{leb-true, le-leb}
use Rattle.meaning.specs.Octets.{same}
use Rattle.meaning.specs.Jobs.{is_kind, Context}
use Rattle.meaning.specs.Presence.{mandatory}
use Rattle.meaning.specs.Codes.{code}
use Rattle.meaning.proofs.Tests.{parts, same_one}
use Rattle.presence.specs.Rows.{built, row_by, row_of, agrees, by_kind}

-- ---- By the test

-- Each row of a table that agrees with a rule is the rule's.
pub row_of_test : (rule : (row number : ℕ) → ℕ) (i n : ℕ) (table : List (List ℕ)) (none : List ℕ) → T (agrees rule i n table)
    → (k : ℕ) → k < n → get_or table k none ≡ row_by (rule (i + k))
unfolding agrees
row_of_test rule i zero table none t k h = absurd (not-suc-le-zero h)
row_of_test rule i (suc n) [] none t k h = absurd t
row_of_test rule i (suc n) (row ∷ rows) none t zero h =
    same_one row (row_by (rule i)) (parts (same row (row_by (rule i))) (agrees rule (suc i) n rows) t).0
    ∙ ap (λ (j : ℕ). row_by (rule j)) (sym (add-zero i))
row_of_test rule i (suc n) (row ∷ rows) none t (suc k) h =
    row_of_test rule (suc i) n rows none (parts (same row (row_by (rule i))) (agrees rule (suc i) n rows) t).1 k (le_of_suc-le-suc h)
    ∙ ap (λ (j : ℕ). row_by (rule j)) (suc-add i k ∙ sym (add-suc i k))

-- The row of a kind is the one before its number.
pub row_of_kind : (kind : ℕ) (row : List ℕ) (k : ℕ) → k < 6 → kind ≡ suc k → row ≡ row_by (by_kind k) → row ≡ row_of kind
unfolding row_of is_kind by_kind
row_of_kind kind row k low q e = e ∙ rw (q, le-leb 1 (suc k) (omega arith), le-leb (suc k) 6 (omega arith))

-- what is none of the six kinds
pub no_kind : (kind : ℕ) → (1 ≤ kind → kind ≤ 6 → ⊥) → is_kind kind ≡ false
unfolding is_kind
no_kind kind h = go (leb 1 kind) refl (leb kind 6) refl
  where
    go : (a : Bool) → leb 1 kind ≡ a → (b : Bool) → leb kind 6 ≡ b → a && b ≡ false
    go true p true q = absurd (h (leb-true 1 kind p) (leb-true kind 6 q))
    go true p false q = refl
    go false p b q = refl

-- ---- What a row says

built_from : (f : ℕ → ℕ) (i n k : ℕ) → k < n → get_or (built f i n) k 0 ≡ f (i + k)
built_from f i zero k h = absurd (not-suc-le-zero h)
built_from f i (suc n) zero h = ap f (sym (add-zero i))
built_from f i (suc n) (suc k) h = built_from f (suc i) n k (le_of_suc-le-suc h) ∙ ap f (suc-add i k ∙ sym (add-suc i k))

module _ (c : Context) (k : is_kind c.kind ≡ true) where
  pub row_long : length (row_of c.kind) ≡ 256
  unfolding row_of row_by
  row_long = rw k

  -- The entry at n is the code of n, whatever the flags.
  pub row_says : (n : ℕ) → n < 256 → get_or (row_of c.kind) n 0 ≡ code c n
  unfolding row_of row_by code mandatory
  row_says n h = rw k (built_from (code c) 0 256 n h ∙ ap (code c) (zero-add n))
