-- Numbers with the high octet first, once over the width: the loops that read one and lay one out. Assumes nothing.
use mathlib.Core.Path.{◌≡◌, refl, sym, ap, ap₂, ◌∙◌}
use mathlib.Core.List.{List, [], ◌∷◌}
use Prim.Native.Nat.{ℕ, zero, suc, ◌+◌, ◌*◌, ◌/◌, ◌%◌, ◌^◌, ◌<◌, ◌≤◌}
use native.Mathlib.Nat.{pow-suc, pow-le-pow_right, div-one}
use native.Mathlib.Numerals.{add-one}
use native.Mathlib.Omega.{arith}
use lib.ListN.{length, take, get_or}
use lib.Seq.{take-suc}
use Rattle.std.specs.Int.{w32, bytes_high_first, from_be_bytes}
use Rattle.std.proofs.lemmas.Nat.{be_bytes_4}
use Rattle.meaning.specs.Octets.{number_of, octets_of}
use Rattle.meaning.proofs.Numbers.{number_snoc, number_back}

-- ---- Reading

-- n is what the first i octets of s stand for
pub record Summed (s : List ℕ) (i n : ℕ) : Type 0 where
  pub within : i ≤ length s
  pub few : length s ≤ 8
  pub is : n ≡ number_of (take i s)
  pub fits : n < 256 ^ i

pub summed_none : (s : List ℕ) → length s ≤ 8 → Summed s 0 0
unfolding number_of
summed_none s h = record { within = omega arith; few = h; is = refl; fits = omega arith }

module _ (s : List ℕ) (i n : ℕ) (u : Summed s i n) where
  -- there is room for one octet more
  pub summed_room : i < length s → n < 256 ^ 7
  summed_room h =
      let p : 256 ^ i ≤ 256 ^ 7 = pow-le-pow_right {n = 256} (omega arith) {j = 7} (omega (arith, u.few)) in
      omega (arith, u.fits)

  pub summed_more : i < length s → (x : ℕ) → x ≡ get_or s i 0 → x < 256 → Summed s (i + 1) (n * 256 + x)
  summed_more h x e b =
      record {
        within = omega arith;
        few = u.few;
        is = rw (add-one i, take-suc s i 0 h, number_snoc) (ap₂ (λ (m y : ℕ). m * 256 + y) u.is e);
        fits = rw (add-one i, pow-suc) (omega (arith, u.fits));
      }

-- ---- Laying out

-- the octets that the library gives, by this crate's word
pub high_first : (w n : ℕ) → bytes_high_first w n ≡ octets_of w n
unfolding octets_of
high_first zero n = refl
high_first (suc zero) n = ap (λ (m : ℕ). (m % 256) ∷ []) (sym (div-one n))
high_first (suc (suc w)) n = ap (λ (l : List ℕ). (n / 256 ^ suc w % 256) ∷ l) (high_first (suc w) n)

-- What the library reads from four octets is their number.
pub read_four : (l : List ℕ) (r : ℕ) → length l ≡ 4 → ((i : ℕ) → get_or l i 0 < 256) → r < 4294967296 → r ≡ from_be_bytes w32 l
    → r ≡ number_of l
read_four l r e o h q = sym (number_back 4 r h) ∙ ap number_of (sym (high_first 4 r) ∙ be_bytes_4 l r e o q)
