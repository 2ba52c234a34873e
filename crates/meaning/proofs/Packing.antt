-- Digits two to an octet, once over the count, and their text: there and back. Assumes nothing.
use mathlib.Core.Path.{◌≡◌, refl, sym, ap, ◌∙◌}
use mathlib.Core.List.{List, [], ◌∷◌}
use mathlib.Core.Bool.{Bool, true, false, cond, ◌&&◌, ◌||◌}
use Prim.Native.Nat.{ℕ, zero, suc, ◌+◌, ◌*◌, ◌-◌, ◌/◌, ◌%◌, ◌<◌, ◌≤◌}
use native.Mathlib.Omega.{arith}
use lib.Dec.{T, leb}
use borrow.Author.Tests.{le-leb, lt-leb, leb-true}
use lib.ListN.{length, length-map}
use Rattle.meaning.proofs.Tests.{parts, both, left_or}
use Rattle.meaning.specs.Octets.{between, all, Octets, pack, unpack, packed_length, is_digit, is_hex, digit_value, digit_text, values}
use Rattle.meaning.specs.Octets.{text}

-- each is a half octet
abbrev pub Halves : List ℕ → Type 0
Halves [] = Unit {0}
Halves (a ∷ l) = (a < 16) × Halves l

pub pack_length : (l : List ℕ) → length (pack l) ≡ packed_length (length l)
unfolding pack
pack_length [] = refl
pack_length (a ∷ []) = refl
pack_length (a ∷ b ∷ l) = let h : length (pack l) ≡ packed_length (length l) = pack_length l in omega arith

pub pack_octets : (l : List ℕ) → Halves l → Octets (pack l)
unfolding pack
pack_octets [] h = tt
pack_octets (a ∷ []) h = (omega arith, tt)
pack_octets (a ∷ b ∷ l) h = let low : b < 16 = h.1.0 in (omega arith, pack_octets l h.1.1)

-- The digits come back.
pub unpack_pack : (l : List ℕ) → Halves l → unpack (length l) (pack l) ≡ l
unfolding pack unpack
unpack_pack [] h = refl
unpack_pack (a ∷ []) h = let e : (a * 16 + 15) / 16 ≡ a = omega arith in rw e
unpack_pack (a ∷ b ∷ l) h =
    let low : b < 16 = h.1.0 in
    let e : (a * 16 + b) / 16 ≡ a = omega arith in
    let f : (a * 16 + b) % 16 ≡ b = omega arith in
    rw (e, f, unpack_pack l h.1.1)

pub unpack_length : (n : ℕ) (s : List ℕ) → length s ≡ packed_length n → length (unpack n s) ≡ n
unfolding unpack
unpack_length zero s h = refl
unpack_length (suc n) [] h = absurd (omega arith)
unpack_length (suc zero) (x ∷ s) h = refl
unpack_length (suc (suc n)) (x ∷ s) h = ap (λ (k : ℕ). suc (suc k)) (unpack_length n s (omega arith))

-- so many digits fill their octets, the odd one with a low half of 15
abbrev pub Filled : (count : ℕ) → List ℕ → Type 0
Filled zero s = s ≡ []
Filled (suc n) [] = ⊥
Filled (suc zero) (x ∷ s) = (x % 16 ≡ 15) × (s ≡ [])
Filled (suc (suc n)) (x ∷ s) = Filled n s

-- The octets come back, where they hold so many digits.
pub pack_unpack : (n : ℕ) (s : List ℕ) → Filled n s → pack (unpack n s) ≡ s
unfolding pack unpack
pack_unpack zero s h = sym h
pack_unpack (suc n) [] h = absurd h
pack_unpack (suc zero) (x ∷ s) h = let e : x / 16 * 16 + 15 ≡ x = omega (arith, h.0) in rw (e, h.1)
pack_unpack (suc (suc n)) (x ∷ s) h = let e : x / 16 * 16 + x % 16 ≡ x = omega arith in rw (e, pack_unpack n s h)

pub unpack_halves : (n : ℕ) (s : List ℕ) → Octets s → Halves (unpack n s)
unfolding unpack
unpack_halves zero s o = tt
unpack_halves (suc n) [] o = tt
unpack_halves (suc zero) (x ∷ s) o = let h : x < 256 = o.0 in (omega arith, tt)
unpack_halves (suc (suc n)) (x ∷ s) o = let h : x < 256 = o.0 in (omega arith, (omega arith, unpack_halves n s o.1))

-- ---- Text

-- a text of decimal or hexadecimal digits
abbrev pub Hexes : List ℕ → Type 0
Hexes v = T (all is_hex v)

hex_low : (x : ℕ) → T (is_hex x) → digit_value x < 16
hex_low x t = go (leb 48 x) (leb x 57) (leb 65 x) (leb x 70) refl refl refl refl t
  where
    go : (a b c d : Bool) → leb 48 x ≡ a → leb x 57 ≡ b → leb 65 x ≡ c → leb x 70 ≡ d → T (a && b || c && d) → cond b (x - 48) (x - 55) < 16
    go a true c d p q r s t = let h : x ≤ 57 = leb-true x 57 q in omega arith
    go true false true true p q r s t = let h : x ≤ 70 = leb-true x 70 s in omega arith
    go true false true false p q r s t = absurd t
    go true false false d p q r s t = absurd t
    go false false true true p q r s t = let h : x ≤ 70 = leb-true x 70 s in omega arith
    go false false true false p q r s t = absurd t
    go false false false d p q r s t = absurd t

hex_back : (x : ℕ) → T (is_hex x) → digit_text (digit_value x) ≡ x
hex_back x t = go (leb 48 x) (leb x 57) (leb 65 x) (leb x 70) refl refl refl refl t
  where
    high : 65 ≤ x → digit_text (x - 55) ≡ x
    high h = rw (lt-leb (x - 55) 9 (omega arith)) (omega arith)

    go :
        (a b c d : Bool) → leb 48 x ≡ a → leb x 57 ≡ b → leb 65 x ≡ c → leb x 70 ≡ d → T (a && b || c && d)
        → digit_text (cond b (x - 48) (x - 55)) ≡ x
    go true true c d p q r s t =
        let h : x ≤ 57 = leb-true x 57 q in
        let g : 48 ≤ x = leb-true 48 x p in
        rw (le-leb (x - 48) 9 (omega arith)) (omega arith)
    go false true true d p q r s t =
        let h : x ≤ 57 = leb-true x 57 q in
        let g : 65 ≤ x = leb-true 65 x r in
        absurd (omega arith)
    go false true false d p q r s t = absurd t
    go true false true d p q r s t = high (leb-true 65 x r)
    go true false false d p q r s t = absurd t
    go false false true d p q r s t = high (leb-true 65 x r)
    go false false false d p q r s t = absurd t

digit_hex : (x : ℕ) → T (is_digit x) → T (is_hex x)
digit_hex x t = left_or (is_digit x) (between 65 70 x) t

-- Decimal digits are hexadecimal digits.
pub digits_hexes : (v : List ℕ) → T (all is_digit v) → Hexes v
digits_hexes [] t = tt
digits_hexes (x ∷ v) t =
    both (is_hex x) (all is_hex v) (digit_hex x (parts (is_digit x) (all is_digit v) t).0)
    (digits_hexes v (parts (is_digit x) (all is_digit v) t).1)

pub values_length : (v : List ℕ) → length (values v) ≡ length v
unfolding values
values_length v = length-map v digit_value

-- digits take half as many octets, rounded up
pub packed_values : (v : List ℕ) → length (pack (values v)) ≡ packed_length (length v)
packed_values v = pack_length (values v) ∙ ap packed_length (values_length v)

pub values_halves : (v : List ℕ) → Hexes v → Halves (values v)
unfolding values
values_halves [] t = tt
values_halves (x ∷ v) t =
    (hex_low x (parts (is_hex x) (all is_hex v) t).0, values_halves v (parts (is_hex x) (all is_hex v) t).1)

-- The text comes back.
pub text_values : (v : List ℕ) → Hexes v → text (values v) ≡ v
unfolding text values
text_values [] t = refl
text_values (x ∷ v) t =
    rw (hex_back x (parts (is_hex x) (all is_hex v) t).0)
    (ap (λ (l : List ℕ). x ∷ l) (text_values v (parts (is_hex x) (all is_hex v) t).1))

hex_octet : (x : ℕ) → T (is_hex x) → x < 256
hex_octet x t = let h = hex_low x t in let e = hex_back x t in go (leb (digit_value x) 9) e
  where
    go : (b : Bool) → cond b (digit_value x + 48) (digit_value x + 55) ≡ x → x < 256
    go true e = omega (arith, hex_low x t)
    go false e = omega (arith, hex_low x t)

pub hexes_octets : (v : List ℕ) → Hexes v → Octets v
hexes_octets [] t = tt
hexes_octets (x ∷ v) t =
    (hex_octet x (parts (is_hex x) (all is_hex v) t).0, hexes_octets v (parts (is_hex x) (all is_hex v) t).1)

-- A text of digits comes back from the octets it is packed in.
pub text_back : (v : List ℕ) → Hexes v → text (unpack (length v) (pack (values v))) ≡ v
text_back v t =
    ap text (ap (λ (n : ℕ). unpack n (pack (values v))) (sym (values_length v)) ∙ unpack_pack (values v) (values_halves v t)) ∙ text_values v t

-- The same for an even count, measured by the octets.
pub text_back_even : (v : List ℕ) (k : ℕ) → length v ≡ 2 * k → Hexes v → text (unpack (2 * length (pack (values v))) (pack (values v))) ≡ v
text_back_even v k e t =
    let n : 2 * length (pack (values v)) ≡ length v = omega (arith, pack_length (values v), values_length v) in
    ap (λ (m : ℕ). text (unpack m (pack (values v)))) n ∙ text_back v t

pub halves_octets : (l : List ℕ) → Halves l → Octets l
halves_octets [] h = tt
halves_octets (a ∷ l) h = let low : a < 16 = h.0 in (omega arith, halves_octets l h.1)

pub packed_octets : (v : List ℕ) → Hexes v → Octets (pack (values v))
packed_octets v t = pack_octets (values v) (values_halves v t)
