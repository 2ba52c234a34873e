-- Halves two to an octet, once over the count: what stands at each place. Assumes nothing.
use mathlib.Core.Path.{◌≡◌, refl, sym, ap, ap₂, ◌∙◌}
use mathlib.Core.List.{List, [], ◌∷◌, ◌++◌, map}
use Prim.Native.Nat.{ℕ, zero, suc, ◌+◌, ◌*◌, ◌/◌, ◌%◌, ◌<◌, ◌≤◌}
use native.Mathlib.Omega.{arith}
use native.Mathlib.Nat.{mod-eq_of_lt}
use lib.Dec.{T}
use lib.ListN.{length, take, get_or, replicate, length-map, length-replicate, get_or-eq_default}
use Rattle.meaning.specs.Octets.{all, pack, packed_length, is_hex, digit_value, values}
use Rattle.meaning.proofs.Packing.{Halves, pack_length, values_halves}
use Rattle.meaning.specs.Answers.{over}
use Rattle.octets.specs.DigitStrings.{halves, padded, held_of}
use Rattle.octets.proofs.Overs.{over_length}

-- The octet at a place is the pair of halves from twice the place on; beside an odd last one stands 15.
pair_at : (l : List ℕ) (i : ℕ) → i < packed_length (length l) → get_or (pack l) i 0 ≡ get_or l (2 * i) 15 * 16 + get_or l (2 * i + 1) 15
unfolding pack
pair_at [] i h = absurd (omega arith)
pair_at (a ∷ []) zero h = refl
pair_at (a ∷ []) (suc i) h = absurd (omega arith)
pair_at (a ∷ b ∷ l) zero h = refl
pair_at (a ∷ b ∷ l) (suc i) h =
    let high : 2 * suc i ≡ suc (suc (2 * i)) = omega arith in
    let low : 2 * suc i + 1 ≡ suc (suc (2 * i + 1)) = omega arith in
    pair_at l i (omega arith) ∙ rw (low, high)

pub map_at : (f : ℕ → ℕ) (l : List ℕ) (k d e : ℕ) → k < length l → get_or (map f l) k e ≡ f (get_or l k d)
map_at f [] k d e h = absurd (omega arith)
map_at f (x ∷ l) zero d e h = refl
map_at f (x ∷ l) (suc k) d e h = map_at f l k d e (omega arith)

-- ---- The halves of a text

module _ (l : List ℕ) where
  halves_length : length (halves l) ≡ length l
  unfolding halves
  halves_length = length-map l (λ x. digit_value x % 16)

  pub halves_packed : length (pack (halves l)) ≡ packed_length (length l)
  halves_packed = pack_length (halves l) ∙ ap packed_length halves_length

  halves_at : (k e : ℕ) → k < length l → get_or (halves l) k e ≡ digit_value (get_or l k 0) % 16
  unfolding halves
  halves_at k e h = map_at (λ x. digit_value x % 16) l k 0 e h

  halves_past : (k e : ℕ) → length l ≤ k → get_or (halves l) k e ≡ e
  halves_past k e h = get_or-eq_default (halves l) e (omega (arith, halves_length))

  -- the octet of two halves, and that of an odd last one
  pub halves_two : (i : ℕ) → i < length l / 2 → (high low x : ℕ) → high ≡ digit_value (get_or l (2 * i) 0) % 16
      → low ≡ digit_value (get_or l (2 * i + 1) 0) % 16 → x ≡ high * 16 + low → x ≡ get_or (pack (halves l)) i 0
  halves_two i h high low x p q r =
      r
      ∙ ap₂ (λ (a b : ℕ). a * 16 + b) (p ∙ sym (halves_at (2 * i) 15 (omega arith))) (q ∙ sym (halves_at (2 * i + 1) 15 (omega arith)))
      ∙ sym (pair_at (halves l) i (omega (arith, halves_length)))

  pub halves_one : (i : ℕ) → length l / 2 ≤ i → 2 * i < length l → (high x : ℕ) → high ≡ digit_value (get_or l (2 * i) 0) % 16
      → x ≡ high * 16 + 15 → x ≡ get_or (pack (halves l)) i 0
  halves_one i h k high x p r =
      r
      ∙ ap₂ (λ (a b : ℕ). a * 16 + b) (p ∙ sym (halves_at (2 * i) 15 k)) (sym (halves_past (2 * i + 1) 15 (omega arith)))
      ∙ sym (pair_at (halves l) i (omega (arith, halves_length)))

-- halves are what they are modulo 16
pub halves_modulo : (l : List ℕ) → Halves l → map (λ x. x % 16) l ≡ l
halves_modulo [] h = refl
halves_modulo (x ∷ l) h = rw (mod-eq_of_lt h.0) (ap (λ (m : List ℕ). x ∷ m) (halves_modulo l h.1))

values_modulo : (l : List ℕ) → halves l ≡ map (λ x. x % 16) (values l)
unfolding halves values
values_modulo [] = refl
values_modulo (x ∷ l) = ap (λ (m : List ℕ). (digit_value x % 16) ∷ m) (values_modulo l)

-- The halves of decimal or hexadecimal digits are what these stand for.
halves_values : (l : List ℕ) → T (all is_hex l) → halves l ≡ values l
halves_values l t = values_modulo l ∙ halves_modulo (values l) (values_halves l t)

-- So the packed halves of such a text are what a sheet stores for it.
pub halves_as_stored : (l : List ℕ) → T (all is_hex l) → pack (halves l) ≡ pack (values l)
halves_as_stored l t = ap pack (halves_values l t)

-- ---- The digits that octets hold

held_length : (n : ℕ) (l : List ℕ) → length (held_of n l) ≡ n
unfolding held_of
held_length zero l = refl
held_length (suc n) [] = ap suc (held_length n [])
held_length (suc n) (x ∷ l) = ap suc (held_length n l)

pub held_packed : (n : ℕ) (l : List ℕ) → length (pack (held_of n l)) ≡ packed_length n
held_packed n l = pack_length (held_of n l) ∙ ap packed_length (held_length n l)

-- all of them, each modulo 16
pub held_all : (l : List ℕ) → held_of (length l) l ≡ map (λ x. x % 16) l
unfolding held_of
held_all [] = refl
held_all (x ∷ l) = ap (λ (m : List ℕ). (x % 16) ∷ m) (held_all l)

-- ---- Halves with 15s behind them

fifteens : (n : ℕ) → Halves (replicate n 15)
fifteens zero = tt
fifteens (suc n) = (omega arith, fifteens n)

pub padded_length : (l : List ℕ) (n : ℕ) → length l ≤ n → length (padded n 15 l) ≡ n
unfolding padded
padded_length l n h = over_length l (replicate n 15) (omega (arith, length-replicate {A = ℕ} n 15)) ∙ length-replicate {A = ℕ} n 15

pub padded_halves : (l : List ℕ) (n : ℕ) → length l ≤ n → Halves l → Halves (padded n 15 l)
unfolding padded over
padded_halves [] n h k = fifteens n
padded_halves (x ∷ l) zero h k = absurd (omega arith)
padded_halves (x ∷ l) (suc n) h k = (k.0, padded_halves l n (omega arith) k.1)

-- The octets that they are packed in begin with those of the halves: beside an odd last one stands 15.
pub padded_front : (l : List ℕ) (n : ℕ) → length l ≤ n → take (packed_length (length l)) (pack (padded n 15 l)) ≡ pack l
unfolding padded over pack
padded_front [] n h = refl
padded_front (a ∷ []) zero h = absurd (omega arith)
padded_front (a ∷ []) (suc zero) h = refl
padded_front (a ∷ []) (suc (suc n)) h = refl
padded_front (a ∷ b ∷ l) zero h = absurd (omega arith)
padded_front (a ∷ b ∷ l) (suc zero) h = absurd (omega arith)
padded_front (a ∷ b ∷ l) (suc (suc n)) h =
    let e : packed_length (suc (suc (length l))) ≡ suc (packed_length (length l)) = omega arith in
    rw e (ap (λ (m : List ℕ). (a * 16 + b) ∷ m) (padded_front l n (omega arith)))

-- Two 15s more are an octet more.
pub padded_more : (l : List ℕ) (n : ℕ) → length l ≤ n → pack (padded (suc (suc n)) 15 l) ≡ pack (padded n 15 l) ++ (255 ∷ [])
unfolding padded over pack
padded_more [] zero h = refl
padded_more [] (suc zero) h = refl
padded_more [] (suc (suc n)) h = ap (λ (m : List ℕ). 255 ∷ m) (padded_more [] n (omega arith))
padded_more (a ∷ []) zero h = absurd (omega arith)
padded_more (a ∷ []) (suc zero) h = refl
padded_more (a ∷ []) (suc (suc n)) h = ap (λ (m : List ℕ). (a * 16 + 15) ∷ m) (padded_more [] n (omega arith))
padded_more (a ∷ b ∷ l) zero h = absurd (omega arith)
padded_more (a ∷ b ∷ l) (suc zero) h = absurd (omega arith)
padded_more (a ∷ b ∷ l) (suc (suc n)) h = ap (λ (m : List ℕ). (a * 16 + b) ∷ m) (padded_more l n (omega arith))
