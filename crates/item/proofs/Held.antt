-- When octets are what a shape stores, told by their count and by what they hold: a law for each shape that has a form of its own.
-- Assumes nothing.
use mathlib.Core.Path.{◌≡◌, refl, sym, ap, ◌∙◌}
use mathlib.Core.Bool.{Bool, true, false, cond, ◌&&◌, ◌||◌, and-true, and-false, and_assoc, or-false}
use mathlib.Core.List.{List, [], ◌∷◌}
use Prim.Native.Nat.{ℕ, suc, ◌+◌, ◌*◌, ◌-◌, ◌/◌, ◌%◌, ◌<◌, ◌≤◌}
use native.Mathlib.Omega.{arith}
use lib.Dec.{eqb, leb}
use borrow.Author.Tests.{lt-leb, leb-true, leb-false, eq-eqb, ne_eqb, eqb-true, eqb-false}
use lib.ListN.{length, take, get_or}
use Rattle.meaning.specs.Versions.{current}
use Rattle.meaning.specs.Octets.{Octets, between, all, same, is_digit, is_hex, digit_text, values, text, pack, unpack, packed_length}
use Rattle.meaning.specs.Shapes.{number, address, digits, hexadecimal, qos, hex_digit, any_octet, decimal_digit, meets, release}
use Rattle.meaning.specs.Sheet.{form_of, stored_of, value_of}
use Rattle.meaning.proofs.Tests.{is_true, same_itself}
use Rattle.meaning.proofs.Packing.{unpack_length, unpack_halves}
use Rattle.octets.specs.DigitStrings.{packed_digits}
use Rattle.octets.proofs.Unpacking.{decimal_text, eqb_both}
use Rattle.item.specs.Stands.{held}
use Rattle.item.proofs.Texts.{values_text, text_length, whole_back, whole_hexes, whole_length, value_text, text_hex}

same_self : (l : List ℕ) → same l l ≡ true
same_self l = is_true (same l l) (same_itself l)

-- ---- Numbers, addresses, one octet as it stands

module _ (c : ℕ) (st : List ℕ) (n : length st ≡ c) where
  pub number_held : held number c st ≡ eqb c 4
  unfolding held form_of meets value_of stored_of
  number_held = rw (n, same_self st) (and-true (eqb c 4))

  pub address_held : held address c st ≡ eqb c 4
  unfolding held form_of meets value_of stored_of
  address_held = rw (n, same_self st) (and-true (eqb c 4))

  pub octet_held : held any_octet c st ≡ eqb c 1
  unfolding held form_of meets value_of stored_of
  octet_held = rw (n, same_self st) (and-true (eqb c 1))

-- ---- Digits

module _ (a b c : ℕ) (st : List ℕ) (n : length st ≡ packed_length c) (o : Octets st) where
  pub digits_held : held (digits a b) c st ≡ between a b c && packed_digits c st
  unfolding held form_of meets value_of stored_of packed_digits
  digits_held =
      rw (text_length (unpack c st), unpack_length c st n, values_text (unpack c st) (unpack_halves c st o), eq-eqb (length st) (packed_length c) n)
      (and_assoc (between a b c) (all is_digit (text (unpack c st))) (same (pack (unpack c st)) st))

-- ---- Hexadecimal text

twice : (c : ℕ) → eqb (2 * c) 16 ≡ eqb c 8
twice c = eqb_both (2 * c) 16 c 8 (λ e. omega arith) (λ e. omega arith)

pub hexadecimal_held : (c : ℕ) (st : List ℕ) → length st ≡ c → Octets st → held hexadecimal c st ≡ eqb c 8
unfolding held form_of meets value_of stored_of
hexadecimal_held c st n o =
    rw (whole_length st, whole_back st o, is_true (all is_hex (text (unpack (2 * length st) st))) (whole_hexes st o), same_self st, n)
    (and-true (eqb (2 * c) 16 && true) ∙ and-true (eqb (2 * c) 16) ∙ twice c)

-- ---- One digit

pub hex_digit_held : (c : ℕ) (st : List ℕ) → held hex_digit c st ≡ eqb (length st) 1 && leb (get_or st 0 0) 15
unfolding held form_of meets value_of stored_of values text
hex_digit_held c [] = refl
hex_digit_held c (x ∷ []) = go (leb x 15) refl
  where
    go : (b : Bool) → leb x 15 ≡ b → (is_hex (digit_text x) && true) && same (values (digit_text x ∷ [])) (x ∷ []) ≡ b
    go true e =
        let h : x ≤ 15 = leb-true x 15 e in
        rw (is_true (is_hex (digit_text x)) (text_hex x (omega arith)), value_text x (omega arith)) (same_self (x ∷ []))
    go false e =
        let h : 15 < x = leb-false x 15 e in
        rw (lt-leb x 9 (omega arith), lt-leb (x + 55) 57 (omega arith), lt-leb (x + 55) 70 (omega arith), and-false (leb 48 (x + 55)), and-false (leb 65 (x + 55)))
hex_digit_held c (x ∷ y ∷ st) = rw (ne_eqb (length (text (x ∷ y ∷ st))) 1 (λ e. omega arith), ne_eqb (length (x ∷ y ∷ st)) 1 (λ e. omega arith))

pub decimal_digit_held : (c : ℕ) (st : List ℕ) → held decimal_digit c st ≡ eqb (length st) 1 && leb (get_or st 0 0) 9
unfolding held form_of meets value_of stored_of values text
decimal_digit_held c [] = refl
decimal_digit_held c (x ∷ []) = go (leb x 9) refl
  where
    go : (b : Bool) → leb x 9 ≡ b → (is_digit (digit_text x) && true) && same (values (digit_text x ∷ [])) (x ∷ []) ≡ b
    go true e =
        let h : x ≤ 9 = leb-true x 9 e in
        rw (decimal_text x ∙ e, value_text x (omega arith)) (same_self (x ∷ []))
    go false e = rw (decimal_text x ∙ e)
decimal_digit_held c (x ∷ y ∷ st) = rw (ne_eqb (length (text (x ∷ y ∷ st))) 1 (λ e. omega arith), ne_eqb (length (x ∷ y ∷ st)) 1 (λ e. omega arith))

-- ---- A QoS profile

-- which digit a text is
text_is : (n d : ℕ) → d ≤ 9 → eqb (digit_text n) (d + 48) ≡ eqb n d
text_is n d h = go (eqb n d) (leb n 9) refl refl
  where
    go : (a b : Bool) → eqb n d ≡ a → leb n 9 ≡ b → eqb (cond b (n + 48) (n + 55)) (d + 48) ≡ a
    go true true e f = let g : n ≡ d = eqb-true n d e in eq-eqb (n + 48) (d + 48) (omega arith)
    go true false e f =
        let g : n ≡ d = eqb-true n d e in
        let k : 9 < n = leb-false n 9 f in
        absurd (omega arith)
    go false true e f = ne_eqb (n + 48) (d + 48) (λ g. eqb-false n d e (omega arith))
    go false false e f = let k : 9 < n = leb-false n 9 f in ne_eqb (n + 55) (d + 48) (λ g. omega arith)

-- the release that an octet tells, by its tens and ones
release_is : (x d : ℕ) → d ≤ 9 → eqb (x / 10) 9 && (eqb (x % 10) d && true) ≡ eqb x (90 + d)
release_is x d h = go (eqb x (90 + d)) refl
  where
    other : eqb x (90 + d) ≡ false → (a b : Bool) → eqb (x / 10) 9 ≡ a → eqb (x % 10) d ≡ b → a && (b && true) ≡ false
    other e false b p q = refl
    other e true false p q = refl
    other e true true p q =
        let g : x / 10 ≡ 9 = eqb-true (x / 10) 9 p in
        let k : x % 10 ≡ d = eqb-true (x % 10) d q in
        absurd (eqb-false x (90 + d) e (omega arith))

    go : (b : Bool) → eqb x (90 + d) ≡ b → eqb (x / 10) 9 && (eqb (x % 10) d && true) ≡ b
    go true e =
        let g : x ≡ 90 + d = eqb-true x (90 + d) e in
        rw (eq-eqb (x / 10) 9 (omega arith), eq-eqb (x % 10) d (omega arith))
    go false e = other e (eqb (x / 10) 9) (eqb (x % 10) d) refl refl

module _ (x : ℕ) (r : List ℕ) where
  -- the text of the octets behind the release
  abbrev behind : List ℕ
  behind = text (unpack (2 * length r) r)

  -- the text that the octets stand for
  abbrev told : List ℕ
  told = digit_text (x / 10) ∷ digit_text (x % 10) ∷ 45 ∷ behind

  told_is : value_of current qos 0 (x ∷ r) ≡ told
  unfolding value_of text
  told_is = let e : suc (length r) - 1 ≡ length r = omega arith in rw e

  module _ (o : Octets (x ∷ r)) where
    -- a release of so many digits, told by its octet and the octets behind it
    released : (d k : ℕ) → d ≤ 9 → release current 57 (d + 48) (2 * k) told ≡ eqb x (90 + d) && eqb (length r) k
    released d k h =
        rw (text_is (x / 10) 9 (omega arith), text_is (x % 10) d h, release_is x d h, whole_length r, is_true (all is_hex behind) (whole_hexes r o.1))
        (ap (λ (t : Bool). eqb x (90 + d) && t) (and-true (eqb (suc (suc (suc (2 * length r)))) (3 + 2 * k)) ∙ count_is (eqb (length r) k) refl))
      where
        count_is : (b : Bool) → eqb (length r) k ≡ b → eqb (suc (suc (suc (2 * length r)))) (3 + 2 * k) ≡ b
        count_is true e = let g : length r ≡ k = eqb-true (length r) k e in eq-eqb (suc (suc (suc (2 * length r)))) (3 + 2 * k) (omega arith)
        count_is false e = ne_eqb (suc (suc (suc (2 * length r)))) (3 + 2 * k) (λ g. eqb-false (length r) k e (omega arith))

    -- what is stored of the text, where the release is one of the two
    same_again : (d : ℕ) → d ≤ 9 → x ≡ 90 + d → same (stored_of current qos told) (x ∷ r) ≡ true
    unfolding stored_of
    same_again d h e =
        let tens : x / 10 ≡ 9 = omega arith in
        let ones : x % 10 ≡ d = omega arith in
        rw (tens, ones, value_text d (omega arith), whole_back r o.1, same_self r, e) (ap (λ (t : Bool). t && true) (eq-eqb (90 + d) (90 + d) refl))

    -- A QoS profile is told by its release octet and the octets behind it.
    pub qos_held : held qos 0 (x ∷ r) ≡ eqb x 98 && eqb (length r) 3 || eqb x 99 && eqb (length r) 11
    unfolding held form_of meets
    qos_held =
        ap (λ (v : List ℕ). (release current 57 56 6 v || release current 57 57 22 v) && same (stored_of current qos v) (x ∷ r)) told_is
        ∙ rw (released 8 3 (omega arith), released 9 11 (omega arith))
        (go (eqb x 98) (eqb x 99) refl refl)
      where
        go : (a b : Bool) → eqb x 98 ≡ a → eqb x 99 ≡ b
            → (a && eqb (length r) 3 || b && eqb (length r) 11) && same (stored_of current qos told)
            (x ∷ r) ≡ (a && eqb (length r) 3 || b && eqb (length r) 11)
        go true b e f = rw (same_again 8 (omega arith) (eqb-true x 98 e)) (and-true (eqb (length r) 3 || b && eqb (length r) 11))
        go false true e f = rw (same_again 9 (omega arith) (eqb-true x 99 f)) (and-true (eqb (length r) 11))
        go false false e f = refl

-- the same of any octets, by how many they are
pub qos_short : (st : List ℕ) → Octets st → length st ≡ 4 → eqb (get_or st 0 0) 98 ≡ held qos 0 st
qos_short [] o n = absurd (omega arith)
qos_short (x ∷ r) o n =
    sym (qos_held x r o ∙ rw (eq-eqb (length r) 3 (omega arith), ne_eqb (length r) 11 (λ e. omega arith), and-true (eqb x 98), and-false (eqb x 99)) (or-false (eqb x 98)))

-- the same, of each of the four octets
pub qos_four :
    (st : List ℕ) → length st ≡ 4 → get_or st 0 0 < 256 → get_or st 1 0 < 256 → get_or st 2 0 < 256 → get_or st 3 0 < 256
    → held qos 0 st ≡ eqb (get_or st 0 0) 98
qos_four [] n p q r s = absurd (omega arith)
qos_four (a ∷ []) n p q r s = absurd (omega arith)
qos_four (a ∷ b ∷ []) n p q r s = absurd (omega arith)
qos_four (a ∷ b ∷ x ∷ []) n p q r s = absurd (omega arith)
qos_four (a ∷ b ∷ x ∷ y ∷ []) n p q r s = sym (qos_short (a ∷ b ∷ x ∷ y ∷ []) (p, (q, (r, (s, tt)))) n)
qos_four (a ∷ b ∷ x ∷ y ∷ z ∷ l) n p q r s = absurd (omega arith)

pub qos_long : (st : List ℕ) → Octets st → length st ≡ 12 → eqb (get_or st 0 0) 99 ≡ held qos 0 st
qos_long [] o n = absurd (omega arith)
qos_long (x ∷ r) o n =
    sym (qos_held x r o ∙ rw (ne_eqb (length r) 3 (λ e. omega arith), eq-eqb (length r) 11 (omega arith), and-false (eqb x 98), and-true (eqb x 99)))

-- a release of another length
other_length : (a b n : ℕ) (v : List ℕ) → (length v ≡ 3 + n → ⊥) → release current a b n v ≡ false
other_length a b n v h = rw (ne_eqb (length v) (3 + n) h) (and-false (same (take 3 v) (a ∷ b ∷ 45 ∷ [])))

pub qos_other : (st : List ℕ) → (length st ≡ 4 → ⊥) → (length st ≡ 12 → ⊥) → false ≡ held qos 0 st
unfolding held form_of meets value_of text
qos_other [] h g = refl
qos_other (x ∷ r) h g =
    let n : length (text (unpack (2 * length r) r)) ≡ 2 * length r = whole_length r in
    let none : release current 57 56 6 (told x r) || release current 57 57 22 (told x r) ≡ false =
    rw (other_length 57 56 6 (told x r) (λ e. h (omega arith)), other_length 57 57 22 (told x r) (λ e. g (omega arith))) in
    ap (λ (t : Bool). t && same (stored_of current qos (told x r)) (x ∷ r)) (sym none)
    ∙ ap (λ (v : List ℕ). (release current 57 56 6 v || release current 57 57 22 v) && same (stored_of current qos v) (x ∷ r)) (sym (told_is x r))
