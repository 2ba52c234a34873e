-- The way back from packed digits: the text of the halves, and when octets are so many decimal digits. Assumes nothing.
use mathlib.Core.Path.{◌≡◌, refl, sym, ap, ap₂, ◌∙◌}
use mathlib.Core.Bool.{Bool, true, false, ◌&&◌, and-true, and-false}
use mathlib.Core.List.{List, [], ◌∷◌, map}
use Prim.Native.Nat.{ℕ, zero, suc, ◌+◌, ◌*◌, ◌-◌, ◌/◌, ◌%◌, ◌<◌, ◌≤◌, min}
use native.Mathlib.Numerals.{add-one}
use native.Mathlib.Omega.{arith}
use borrow.Author.Tests.{le-leb, lt-leb, leb-true, leb-false, eq-eqb, ne_eqb, eqb-true, eqb-false}
use lib.Dec.{T, leb, eqb}
use lib.ListN.{length, drop, get_or, set, length-map, drop_of_length-le}
use lib.Seq.{drop-cons}
use Rattle.meaning.specs.Octets.{all, same, pack, unpack, packed_length, is_digit, digit_text, text}
use Rattle.meaning.specs.Answers.{over}
use Rattle.meaning.proofs.Tests.{parts, passes, is_true}
use Rattle.octets.specs.DigitStrings.{packed_digits, decimals}
use Rattle.octets.specs.Parts.{Overlaid}
use Rattle.octets.proofs.Overs.{overlaid_more}
use Rattle.octets.proofs.Halves.{map_at}

-- ---- The text of halves

-- so many halves, or as many of them as there are
unpack_size : (c : ℕ) (s : List ℕ) → length (unpack c s) ≡ min c (2 * length s)
unfolding unpack
unpack_size zero s = omega arith
unpack_size (suc c) [] = omega arith
unpack_size (suc zero) (x ∷ s) = omega arith
unpack_size (suc (suc c)) (x ∷ s) = let h : length (unpack c s) ≡ min c (2 * length s) = unpack_size c s in omega arith

-- more are not there
unpack_least : (c : ℕ) (s : List ℕ) → unpack (min c (2 * length s)) s ≡ unpack c s
unfolding unpack
unpack_least zero s = let e : min 0 (2 * length s) ≡ 0 = omega arith in rw e
unpack_least (suc c) [] = let e : min (suc c) 0 ≡ 0 = omega arith in rw e
unpack_least (suc zero) (x ∷ s) = let e : min 1 (2 * suc (length s)) ≡ 1 = omega arith in rw e
unpack_least (suc (suc c)) (x ∷ s) =
    let e : min (suc (suc c)) (2 * suc (length s)) ≡ suc (suc (min c (2 * length s))) = omega arith in
    rw (e, unpack_least c s)

-- The first of an octet's halves is the high one.
unpack_high : (c : ℕ) (s : List ℕ) (i : ℕ) → 2 * i < c → i < length s → get_or (unpack c s) (2 * i) 0 ≡ get_or s i 0 / 16
unfolding unpack
unpack_high zero s i h k = absurd (omega arith)
unpack_high (suc c) [] i h k = absurd (omega arith)
unpack_high (suc zero) (x ∷ s) zero h k = refl
unpack_high (suc zero) (x ∷ s) (suc i) h k = absurd (omega arith)
unpack_high (suc (suc c)) (x ∷ s) zero h k = refl
unpack_high (suc (suc c)) (x ∷ s) (suc i) h k =
    let e : 2 * suc i ≡ suc (suc (2 * i)) = omega arith in
    rw e (unpack_high c s i (omega arith) (omega arith))

unpack_low : (c : ℕ) (s : List ℕ) (i : ℕ) → 2 * i + 1 < c → i < length s → get_or (unpack c s) (2 * i + 1) 0 ≡ get_or s i 0 % 16
unfolding unpack
unpack_low zero s i h k = absurd (omega arith)
unpack_low (suc c) [] i h k = absurd (omega arith)
unpack_low (suc zero) (x ∷ s) i h k = absurd (omega arith)
unpack_low (suc (suc c)) (x ∷ s) zero h k = refl
unpack_low (suc (suc c)) (x ∷ s) (suc i) h k =
    let e : 2 * suc i + 1 ≡ suc (suc (2 * i + 1)) = omega arith in
    rw e (unpack_low c s i (omega arith) (omega arith))

-- each half is written by itself, as what f makes of it
module _ (f : ℕ → ℕ) (c : ℕ) (s : List ℕ) where
  pub each_length : length (map f (unpack c s)) ≡ min c (2 * length s)
  each_length = length-map (unpack c s) f ∙ unpack_size c s

  -- what was laid over a buffer, said of all the halves that were asked for
  pub each_over : (n : ℕ) (d p : List ℕ) → n ≡ min c (2 * length s) → p ≡ over (map f (unpack n s)) d → p ≡ over (map f (unpack c s)) d
  each_over n d p e q = q ∙ ap (λ (l : List ℕ). over (map f l) d) (ap (λ (m : ℕ). unpack m s) e ∙ unpack_least c s)

  -- what stands at each place: the high half of an octet, then the low one
  pub high_at : (i : ℕ) → 2 * i < c → i < length s → get_or (map f (unpack c s)) (2 * i) 0 ≡ f (get_or s i 0 / 16)
  high_at i h here = map_at f (unpack c s) (2 * i) 0 0 (omega (arith, unpack_size c s)) ∙ ap f (unpack_high c s i h here)

  pub low_at : (i : ℕ) → 2 * i + 1 < c → i < length s → get_or (map f (unpack c s)) (2 * i + 1) 0 ≡ f (get_or s i 0 % 16)
  low_at i h here = map_at f (unpack c s) (2 * i + 1) 0 0 (omega (arith, unpack_size c s)) ∙ ap f (unpack_low c s i h here)

  -- a loop over the octets has written the halves before i, and writes the next
  module _ (d out : List ℕ) (i : ℕ) (w : Overlaid (map f (unpack c s)) d out (2 * i)) (here : i < length s) where
    pub high_written : (y : ℕ) → 2 * i < c → y ≡ f (get_or s i 0 / 16) → Overlaid (map f (unpack c s)) d (set out (2 * i) y) (2 * i + 1)
    high_written y h e = overlaid_more _ _ _ _ _ w (omega (arith, each_length)) (e ∙ sym (high_at i h here))

    pub two_written : (y z : ℕ) → 2 * i + 1 < c → y ≡ f (get_or s i 0 / 16) → z ≡ f (get_or s i 0 % 16)
        → Overlaid (map f (unpack c s)) d (set (set out (2 * i) y) (2 * i + 1) z) (2 * (i + 1))
    two_written y z h e g =
        let next : 2 * (i + 1) ≡ 2 * i + 1 + 1 = omega arith in
        rw next (overlaid_more _ _ _ _ _ (high_written y (omega arith) e) (omega (arith, each_length)) (g ∙ sym (low_at i h here)))

pub unpacked_length : (c : ℕ) (s : List ℕ) → length (text (unpack c s)) ≡ min c (2 * length s)
unfolding text
unpacked_length = each_length digit_text

pub decimals_length : (c : ℕ) (s : List ℕ) → length (decimals (unpack c s)) ≡ min c (2 * length s)
unfolding decimals
decimals_length = each_length (λ h. h + 48)

-- the high half of an octet is a half
pub high_text : (x : ℕ) → x < 256 → digit_text (x / 16 % 16) ≡ digit_text (x / 16)
high_text x h = let e : x / 16 % 16 ≡ x / 16 = omega arith in ap digit_text e

-- ---- When octets are so many decimal digits

-- a half's digit is a decimal digit exactly up to 9
pub decimal_text : (n : ℕ) → is_digit (digit_text n) ≡ leb n 9
decimal_text n = go (leb n 9) refl
  where
    go : (b : Bool) → leb n 9 ≡ b → is_digit (digit_text n) ≡ b
    go true e =
        let h : n ≤ 9 = leb-true n 9 e in
        rw (e, le-leb 48 (n + 48) (omega arith), le-leb (n + 48) 57 (omega arith))
    go false e =
        let h : 9 < n = leb-false n 9 e in
        rw (e, le-leb 48 (n + 55) (omega arith), lt-leb (n + 55) 57 (omega arith))

pub eqb_both : (a b c d : ℕ) → (a ≡ b → c ≡ d) → (c ≡ d → a ≡ b) → eqb a b ≡ eqb c d
eqb_both a b c d f g = go (eqb a b) refl
  where
    go : (t : Bool) → eqb a b ≡ t → t ≡ eqb c d
    go true e = sym (eq-eqb c d (f (eqb-true a b e)))
    go false e = sym (ne_eqb c d (λ q. eqb-false a b e (g q)))

-- A text of decimal digits only needs no test for letters.
decimals_text : (l : List ℕ) → T (all is_digit (text l)) → decimals l ≡ text l
unfolding text decimals
decimals_text [] t = refl
decimals_text (x ∷ l) t =
    let u = parts (is_digit (digit_text x)) (all is_digit (text l)) t in
    let low : leb x 9 ≡ true = sym (decimal_text x) ∙ is_true (is_digit (digit_text x)) u.0 in
    rw (low, decimals_text l u.1)

-- So it is with digits that are packed.
pub packed_decimals : (c : ℕ) (s : List ℕ) → packed_digits c s ≡ true → decimals (unpack c s) ≡ text (unpack c s)
unfolding packed_digits
packed_decimals c s e =
    let u = parts (eqb (length s) (packed_length c)) (all is_digit (text (unpack c s)) && same (pack (unpack c s)) s) (passes _ e) in
    decimals_text (unpack c s) (parts (all is_digit (text (unpack c s))) (same (pack (unpack c s)) s) u.1).0

-- an octet with two digits decides with the octets behind it
packed_two : (c x : ℕ) (s : List ℕ) → packed_digits (suc (suc c)) (x ∷ s) ≡ (leb (x / 16) 9 && leb (x % 16) 9) && packed_digits c s
unfolding packed_digits text unpack pack
packed_two c x s =
    let size : eqb (suc (length s)) (packed_length (suc (suc c))) ≡ eqb (length s) (packed_length c) =
    eqb_both (suc (length s)) (packed_length (suc (suc c))) (length s) (packed_length c) (λ e. omega arith) (λ e. omega arith) in
    let octet : eqb (x / 16 * 16 + x % 16) x ≡ true = eq-eqb (x / 16 * 16 + x % 16) x (omega arith) in
    rw (size, octet, decimal_text (x / 16), decimal_text (x % 16)) (order (eqb (length s) (packed_length c)) (leb (x / 16) 9) (leb (x % 16) 9) (all is_digit (text (unpack c s))) (same (pack (unpack c s)) s))
  where
    order : (n a b p q : Bool) → n && (a && (b && p) && q) ≡ a && b && (n && (p && q))
    order true true true p q = refl
    order true true false p q = refl
    order true false b p q = refl
    order false true b p q = sym (and-false b)
    order false false b p q = refl

-- an odd last digit stands alone, with 15 behind it
packed_one : (x : ℕ) → packed_digits 1 (x ∷ []) ≡ leb (x / 16) 9 && eqb (x % 16) 15
unfolding packed_digits text unpack pack
packed_one x =
    let octet : eqb (x / 16 * 16 + 15) x ≡ eqb (x % 16) 15 =
    eqb_both (x / 16 * 16 + 15) x (x % 16) 15 (λ e. omega arith) (λ e. omega arith) in
    rw (octet, decimal_text (x / 16), and-true (leb (x / 16) 9), and-true (eqb (x % 16) 15))

packed_zero : packed_digits 0 [] ≡ true
unfolding packed_digits text unpack pack
packed_zero = refl

-- there are so many octets, and the first i of them have passed, so the rest decides
pub record Decided (c : ℕ) (s : List ℕ) (i : ℕ) : Type 0 where
  pub size : length s ≡ packed_length c
  pub within : 2 * i ≤ c
  pub rest : packed_digits c s ≡ packed_digits (c - 2 * i) (drop i s)

pub decided_none : (c : ℕ) (s : List ℕ) → length s ≡ packed_length c → Decided c s 0
decided_none c s e = let n : c ≡ c - 2 * 0 = omega arith in record { size = e; within = omega arith; rest = ap (λ (m : ℕ). packed_digits m s) n }

module _ (c : ℕ) (s : List ℕ) (i : ℕ) (u : Decided c s i) where
  two_decide : i < c / 2
      → packed_digits c s ≡ (leb (get_or s i 0 / 16) 9 && leb (get_or s i 0 % 16) 9) && packed_digits (c - 2 * (i + 1)) (drop (i + 1) s)
  two_decide h =
      let n : c - 2 * i ≡ suc (suc (c - 2 * (i + 1))) = omega arith in
      let front : drop i s ≡ get_or s i 0 ∷ drop (i + 1) s = rw (add-one i) (drop-cons s i 0 (omega (arith, u.size))) in
      u.rest ∙ ap₂ packed_digits n front ∙ packed_two (c - 2 * (i + 1)) (get_or s i 0) (drop (i + 1) s)

  pub decided_more : i < c / 2 → leb (get_or s i 0 / 16) 9 && leb (get_or s i 0 % 16) 9 ≡ true → Decided c s (i + 1)
  decided_more h e = record { size = u.size; within = omega arith; rest = two_decide h ∙ rw e }

  pub decided_not : i < c / 2 → leb (get_or s i 0 / 16) 9 && leb (get_or s i 0 % 16) 9 ≡ false → false ≡ packed_digits c s
  decided_not h e = sym (two_decide h ∙ rw e)

  pub decided_last : c / 2 ≤ i → i < length s → leb (get_or s i 0 / 16) 9 && eqb (get_or s i 0 % 16) 15 ≡ packed_digits c s
  decided_last h k =
      let n : c - 2 * i ≡ 1 = omega (arith, u.size, u.within) in
      let none : drop (suc i) s ≡ [] = drop_of_length-le s {i = suc i} (omega (arith, u.size, u.within)) in
      let alone : drop i s ≡ get_or s i 0 ∷ [] = drop-cons s i 0 k ∙ ap (λ (l : List ℕ). get_or s i 0 ∷ l) none in
      sym (u.rest ∙ ap₂ packed_digits n alone ∙ packed_one (get_or s i 0))

  pub decided_all : length s ≤ i → true ≡ packed_digits c s
  decided_all h =
      let n : c - 2 * i ≡ 0 = omega (arith, u.size) in
      sym (u.rest ∙ ap₂ packed_digits n (drop_of_length-le s h) ∙ packed_zero)
