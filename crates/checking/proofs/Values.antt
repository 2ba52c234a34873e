-- Rule 2: the allowed values of the numbers that have any, where the shape holds. Assumes nothing.
use mathlib.Core.Path.{◌≡◌, ap, ◌∙◌}
use mathlib.Core.Bool.{true, ◌&&◌, ◌||◌, or-false}
use mathlib.Core.List.{List, [], ◌∷◌}
use Prim.Native.Nat.{ℕ, ◌+◌, ◌*◌, ◌^◌, ◌≤◌, ◌<◌}
use native.Mathlib.Omega.{arith}
use lib.Dec.{eqb, leb}
use lib.ListN.{length, get_or}
use borrow.Author.Tests.{le-leb, ne_eqb, eqb-true}
use Rattle.meaning.specs.Versions.{current}
use Rattle.meaning.specs.Octets.{between, all, is_digit, number_of, digit_value, values}
use Rattle.meaning.specs.Jobs.{Context}
use Rattle.meaning.specs.Framing.{gpp}
use Rattle.meaning.specs.Shapes.{plain_shape, gpp_shape, shape_of, meets, status_of, allowed}
use Rattle.meaning.proofs.Tests.{parts, is_true, passes}
use Rattle.shape.proofs.Codes.{Past}
use Rattle.octets.specs.Parts.{part_of}
use Rattle.octets.proofs.Parts.{part_rest}

-- a value of at most four octets is the number that is read of it
whole_number : (v : List ℕ) (x : ℕ) → x ≡ number_of (part_of v 0 4) → length v ≤ 4 → x ≡ number_of v
whole_number v x e h = e ∙ ap number_of (part_rest v 0 4 (omega arith))

-- one decimal digit
digit_long : (n : ℕ) (v : List ℕ) → meets current (shape_of n) v ≡ true → n ≡ gpp 12 → length v ≡ 1
unfolding shape_of gpp_shape meets
digit_long n v met p =
    let both = passes (eqb (length v) 1 && all is_digit v) (rw p at met) in
    eqb-true (length v) 1 (is_true (eqb (length v) 1) (parts (eqb (length v) 1) (all is_digit v) both).0)

pub digit_there : (n : ℕ) (v : List ℕ) → meets current (shape_of n) v ≡ true → n ≡ gpp 12 → 0 < length v
digit_there n v met p = omega (arith, digit_long n v met p)

-- The value v of the carried number n meets its shape; x is the number at its start.
module _ (c : Context) (n : ℕ) (v : List ℕ) (met : meets current (shape_of n) v ≡ true) where
  module _ (x : ℕ) (read : x ≡ number_of (part_of v 0 4)) where
    four : eqb (length v) 4 ≡ true → x ≡ number_of v
    four e = whole_number v x read (omega (arith, eqb-true (length v) 4 e))

    one : eqb (length v) 1 ≡ true → x ≡ number_of v
    one e = whole_number v x read (omega (arith, eqb-true (length v) 1 e))

    pub allowed_6 : n ≡ 6 → eqb x 2 ≡ allowed c n v
    unfolding allowed shape_of plain_shape meets
    allowed_6 p = rw (p, four (rw p at met))

    pub allowed_7 : n ≡ 7 → eqb x 7 ≡ allowed c n v
    unfolding allowed shape_of plain_shape meets
    allowed_7 p = rw (p, four (rw p at met))

    pub allowed_45 : n ≡ 45 → eqb x 1 || eqb x 2 ≡ allowed c n v
    unfolding allowed shape_of plain_shape meets
    allowed_45 p = rw (p, four (rw p at met)) (simp or-false)

    pub allowed_49 : n ≡ 49 → between 1 18 x ≡ allowed c n v
    unfolding allowed shape_of plain_shape meets
    allowed_49 p = rw (p, four (rw p at met))

    pub allowed_40 : n ≡ 40 → eqb c.kind 1 || eqb x (status_of c.kind) ≡ allowed c n v
    unfolding allowed shape_of plain_shape meets
    allowed_40 p = rw (p, four (rw p at met))

    pub allowed_3gpp_3 : n ≡ gpp 3 → eqb x 0 ≡ allowed c n v
    unfolding allowed shape_of gpp_shape meets
    allowed_3gpp_3 p = rw (p, four (rw p at met))

    pub allowed_3gpp_11 : n ≡ gpp 11 → eqb x 255 ≡ allowed c n v
    unfolding allowed shape_of gpp_shape meets
    allowed_3gpp_11 p = rw (p, one (rw p at met))

  pub allowed_3gpp_12 : (x : ℕ) → n ≡ gpp 12 → x ≡ digit_value (get_or v 0 0) → leb x 2 ≡ allowed c n v
  unfolding allowed values number_of
  allowed_3gpp_12 x p e = rw (p, e) (go v (digit_long n v met p))
    where
      go : (v : List ℕ) → length v ≡ 1 → leb (digit_value (get_or v 0 0)) 2 ≡ between 0 2 (number_of (values v))
      go [] h = absurd (omega arith)
      go (d ∷ []) h =
          let e : digit_value d * 256 ^ 0 + 0 ≡ digit_value d = omega arith in
          rw (e, le-leb 0 (digit_value d) (omega arith))
      go (d ∷ y ∷ v) h = absurd (omega arith)

-- any other number
pub allowed_other : (c : Context) (n : ℕ) (v : List ℕ) → Past (Unit {0}) n (6 ∷ 7 ∷ 45 ∷ 49 ∷ 40 ∷ gpp 3 ∷ gpp 11 ∷ gpp 12 ∷ [])
    → true ≡ allowed c n v
unfolding allowed
allowed_other c n v p =
    simp (
      ne_eqb n 6 p.0.0.0.0.0.0.0.1,
      ne_eqb n 7 p.0.0.0.0.0.0.1,
      ne_eqb n 45 p.0.0.0.0.0.1,
      ne_eqb n 49 p.0.0.0.0.1,
      ne_eqb n 40 p.0.0.0.1,
      ne_eqb n (gpp 3) p.0.0.1,
      ne_eqb n (gpp 11) p.0.1,
      ne_eqb n (gpp 12) p.1,
    )
