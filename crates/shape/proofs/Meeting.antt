-- When a value meets a shape, told by its length, its digits and its release. Assumes nothing.
use mathlib.Core.Path.{◌≡◌, refl, sym, ap, ◌∙◌}
use mathlib.Core.Bool.{Bool, false, ◌&&◌, and-false}
use mathlib.Core.List.{List, [], ◌∷◌}
use Prim.Native.Nat.{ℕ, zero, suc, ◌+◌, ◌<◌, ◌≤◌}
use native.Mathlib.Omega.{arith}
use lib.Dec.{eqb, leb}
use borrow.Author.Tests.{le-leb, lt-leb, eq-eqb, ne_eqb}
use lib.ListN.{length, take, get_or}
use Rattle.meaning.specs.Versions.{current}
use Rattle.meaning.specs.Octets.{between, all, same, is_digit, is_hex}
use Rattle.meaning.specs.Shapes.{digits, decimal_digit, release, meets}
use Rattle.octets.specs.Parts.{part_of}
use Rattle.octets.proofs.Parts.{part_rest}

-- ---- Digits

module _ (v : List ℕ) (a b : ℕ) where
  pub digits_few : length v < a → false ≡ meets current (digits a b) v
  unfolding meets
  digits_few h = rw (lt-leb a (length v) h)

  pub digits_many : b < length v → false ≡ meets current (digits a b) v
  unfolding meets
  digits_many h = simp (lt-leb (length v) b h, and-false)

  pub digits_all : a ≤ length v → length v ≤ b → all is_digit v ≡ meets current (digits a b) v
  unfolding meets
  digits_all h g = rw (le-leb a (length v) h, le-leb (length v) b g)

-- one decimal digit is 1 to 1 of them
pub one_digit : (v : List ℕ) → meets current (digits 1 1) v ≡ meets current decimal_digit v
unfolding meets
one_digit v = ap (λ (t : Bool). t && all is_digit v) (one (length v))
  where
    one : (n : ℕ) → between 1 1 n ≡ eqb n 1
    one zero = refl
    one (suc zero) = refl
    one (suc (suc n)) = ap (λ (t : Bool). leb 1 (suc (suc n)) && t) (lt-leb (suc (suc n)) 1 (omega arith)) ∙ and-false (leb 1 (suc (suc n))) ∙ sym (ne_eqb (suc (suc n)) 1 (λ e. omega arith))

-- ---- A release

pub release_dash : (a b n : ℕ) (v : List ℕ) → length v ≡ 3 + n → (get_or v 2 0 ≡ 45 → ⊥) → false ≡ release current a b n v
release_dash a b n [] l h = absurd (omega arith)
release_dash a b n (x ∷ []) l h = absurd (omega arith)
release_dash a b n (x ∷ y ∷ []) l h = absurd (omega arith)
release_dash a b n (x ∷ y ∷ z ∷ v) l h = simp (ne_eqb z 45 h, and-false)

pub release_hex : (a b n : ℕ) (v : List ℕ) → length v ≡ 3 + n → get_or v 0 0 ≡ a → get_or v 1 0 ≡ b → get_or v 2 0 ≡ 45
    → all is_hex (part_of v 3 n) ≡ release current a b n v
release_hex a b n [] l p q r = absurd (omega arith)
release_hex a b n (x ∷ []) l p q r = absurd (omega arith)
release_hex a b n (x ∷ y ∷ []) l p q r = absurd (omega arith)
release_hex a b n (x ∷ y ∷ z ∷ v) l p q r =
    ap (all is_hex) (part_rest (x ∷ y ∷ z ∷ v) 3 n (omega arith))
    ∙ simp (eq-eqb x a p, eq-eqb y b q, eq-eqb z 45 r, eq-eqb (suc (suc (suc (length v)))) (3 + n) l)
