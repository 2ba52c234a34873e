-- The way back from packed octets: halves come back from their text, the text is of digits, and an even count fills its octets.
-- Assumes nothing.
use mathlib.Core.Path.{◌≡◌, refl, ap, ◌∙◌}
use mathlib.Core.Bool.{Bool, true, false, cond}
use mathlib.Core.List.{List, [], ◌∷◌}
use Prim.Native.Nat.{ℕ, zero, suc, ◌+◌, ◌*◌, ◌<◌, ◌≤◌}
use native.Mathlib.Omega.{arith}
use lib.Dec.{T, leb}
use borrow.Author.Tests.{le-leb, lt-leb, leb-true, leb-false}
use lib.ListN.{length, length-map}
use Rattle.meaning.specs.Octets.{Octets, all, is_hex, digit_value, digit_text, values, text, pack, unpack}
use Rattle.meaning.proofs.Tests.{both}
use Rattle.meaning.proofs.Packing.{Halves, Filled, pack_unpack, unpack_length, unpack_halves}

-- what a digit's text stands for is the digit
pub value_text : (n : ℕ) → n < 16 → digit_value (digit_text n) ≡ n
value_text n h = go (leb n 9) refl
  where
    go : (b : Bool) → leb n 9 ≡ b → digit_value (cond b (n + 48) (n + 55)) ≡ n
    go true e = let g : n ≤ 9 = leb-true n 9 e in rw (le-leb (n + 48) 57 (omega arith)) (omega arith)
    go false e = let g : 9 < n = leb-false n 9 e in rw (lt-leb (n + 55) 57 (omega arith)) (omega arith)

pub values_text : (l : List ℕ) → Halves l → values (text l) ≡ l
unfolding values text
values_text [] h = refl
values_text (x ∷ l) h = rw (value_text x h.0) (ap (λ (m : List ℕ). x ∷ m) (values_text l h.1))

-- a half's text is a hexadecimal digit
pub text_hex : (n : ℕ) → n < 16 → T (is_hex (digit_text n))
text_hex n h = go (leb n 9) refl
  where
    go : (b : Bool) → leb n 9 ≡ b → T (is_hex (cond b (n + 48) (n + 55)))
    go true e = let g : n ≤ 9 = leb-true n 9 e in rw (le-leb 48 (n + 48) (omega arith), le-leb (n + 48) 57 (omega arith)) tt
    go false e =
        let g : 9 < n = leb-false n 9 e in
        rw (le-leb 48 (n + 55) (omega arith), lt-leb (n + 55) 57 (omega arith), le-leb 65 (n + 55) (omega arith), le-leb (n + 55) 70 (omega arith)) tt

text_hexes : (l : List ℕ) → Halves l → T (all is_hex (text l))
unfolding text
text_hexes [] h = tt
text_hexes (x ∷ l) h = both (is_hex (digit_text x)) (all is_hex (text l)) (text_hex x h.0) (text_hexes l h.1)

pub text_length : (l : List ℕ) → length (text l) ≡ length l
unfolding text
text_length l = length-map l digit_text

filled_even : (k : ℕ) (s : List ℕ) → length s ≡ k → Filled (2 * k) s
filled_even zero [] h = refl
filled_even zero (x ∷ s) h = absurd (omega arith)
filled_even (suc k) [] h = absurd (omega arith)
filled_even (suc k) (x ∷ s) h = let e : 2 * suc k ≡ suc (suc (2 * k)) = omega arith in rw e (filled_even k s (omega arith))

-- all the halves of some octets, as a text
module _ (s : List ℕ) where
  pub whole_length : length (text (unpack (2 * length s) s)) ≡ 2 * length s
  whole_length = text_length (unpack (2 * length s) s) ∙ unpack_length (2 * length s) s (omega arith)

  module _ (o : Octets s) where
    pub whole_back : pack (values (text (unpack (2 * length s) s))) ≡ s
    whole_back = ap pack (values_text (unpack (2 * length s) s) (unpack_halves (2 * length s) s o)) ∙ pack_unpack (2 * length s) s (filled_even (length s) s refl)

    pub whole_hexes : T (all is_hex (text (unpack (2 * length s) s)))
    whole_hexes = text_hexes (unpack (2 * length s) s) (unpack_halves (2 * length s) s o)
