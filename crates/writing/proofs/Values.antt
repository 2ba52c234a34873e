-- The value that an item stands for, by its form, and that it is short, where some readable attribute gives the item. Assumes nothing.
use mathlib.Core.Path.{◌≡◌, refl, sym, ap, subst, ◌∙◌}
use mathlib.Core.Logic.{⊎_elim}
use mathlib.Core.Bool.{Bool, true, false, cond, not, ◌&&◌}
use mathlib.Core.List.{List, [], ◌∷◌}
use Prim.Native.Nat.{ℕ, suc, ◌+◌, ◌*◌, ◌-◌, ◌/◌, ◌%◌, ◌<◌, ◌≤◌}
use native.Mathlib.Omega.{arith}
use lib.Dec.{T, eqb, leb, ltb, eqb→eq, leb→le}
use borrow.Author.Tests.{lt-ltb, le-ltb, lt-leb, le-leb, ne_eqb, ltb-true, ltb-false}
use lib.ListN.{length, get_or}
use Rattle.meaning.specs.Versions.{current}
use Rattle.meaning.specs.Octets.{Octets, between, digit_text, text, unpack}
use Rattle.meaning.specs.Framing.{is_plain, head_length, carries}
use Rattle.meaning.specs.Shapes.{Shape, number, address, digits, hexadecimal, qos, hex_digit, any_octet, decimal_digit, at_least, exactly}
use Rattle.meaning.specs.Shapes.{blocks, free, shape_of, meets}
use Rattle.meaning.specs.Sheet.{form_of, value_of, value_in, stored_length}
use Rattle.meaning.proofs.Tests.{parts, either, is_true, passes, not_both}
use Rattle.meaning.proofs.Framing.{head_eight, plain_lines, gpp_lines}
use Rattle.meaning.proofs.Packing.{unpack_length}
use Rattle.octets.specs.DigitStrings.{packed_digits}
use Rattle.shape.specs.Codes.{code_of, shape_by}
use Rattle.shape.proofs.Codes.{fifteen, at_most_fifteen}
use Rattle.shape.proofs.Formed.{one_octet}
use Rattle.item.specs.Stands.{stands_as, raw, held, shaped}
use Rattle.item.proofs.Texts.{text_length, whole_length}
use Rattle.item.proofs.Held.{number_held, address_held, octet_held, digits_held, hexadecimal_held, hex_digit_held, decimal_digit_held}
use Rattle.item.proofs.Held.{qos_held, qos_other}
use Rattle.writing.specs.Attributes.{profile_text, value_as}

-- an attribute that is carried is no longer than an octet says
carried_short : (n : ℕ) (v : List ℕ) → T (carries n v) → head_length n + length v < 256
unfolding head_length
carried_short n v t = go (is_plain n) refl
  where
    go : (b : Bool) → is_plain n ≡ b → cond b 2 8 + length v < 256
    go true e = let h : length v ≤ 253 = leb→le (length v) 253 (parts (leb (length v) 253) _ (plain_lines n v e t)).0 in omega arith
    go false e = let h : length v ≤ 246 = gpp_lines n v e t in omega arith

-- nor is one whose value stands as it is
pub raw_short : (n code f : ℕ) (v : List ℕ) → raw n code f v ≡ true → head_length n + length v < 256
unfolding raw
raw_short n code f v e = carried_short n v (parts (not (leb 20 code && meets current (shape_by code) v)) (carries n v) (parts (eqb (cond (is_plain n) 0 1) f) _ (passes _ e)).1).1

-- the value by the form is the value by the shape, and short
record Told (s : Shape) (n f c : ℕ) (st : List ℕ) : Type 0 where
  value_is : value_of current s c st ≡ value_as n f c st
  few : length (value_as n f c st) ≤ 246

-- the text of a digit
one_text : (st : List ℕ) → length st ≡ 1 → get_or st 0 0 < 16 → text st ≡ digit_text (get_or st 0 0 % 16) ∷ []
unfolding text
one_text [] h g = absurd (omega arith)
one_text (x ∷ []) h g = let e : x % 16 ≡ x = omega arith in rw e
one_text (x ∷ y ∷ st) h g = absurd (omega arith)

-- a release below 100 with few octets behind it
pub record Profile (st : List ℕ) : Type 0 where
  pub some : 1 ≤ length st
  pub few : length st ≤ 12
  pub low : get_or st 0 0 < 100

pub profile : (st : List ℕ) → Octets st → held qos 0 st ≡ true → Profile st
profile [] o t = not_both (sym (qos_other [] (λ e. omega arith) (λ e. omega arith) ∙ t))
profile (x ∷ r) o t = ⊎_elim (of 98 3 (omega arith) (omega arith)) (of 99 11 (omega arith) (omega arith)) (either (eqb x 98 && eqb (length r) 3) (eqb x 99 && eqb (length r) 11) (passes _ (sym (qos_held x r o) ∙ t)))
  where
    of : (a k : ℕ) → a < 100 → k ≤ 11 → T (eqb x a && eqb (length r) k) → Profile (x ∷ r)
    of a k h g u =
        let q = parts (eqb x a) (eqb (length r) k) u in
        let release : x ≡ a = eqb→eq x a q.0 in
        let behind : length r ≡ k = eqb→eq (length r) k q.1 in
        record { some = omega arith; few = omega arith; low = omega arith }

-- the count serves form 4 alone
pub qos_counted : (c : ℕ) (st : List ℕ) → held qos 0 st ≡ held qos c st
unfolding held value_of
qos_counted c st = refl

-- what a held octet of form 7 says, by its test
one_held : (t : Bool) (m : ℕ) (st : List ℕ) → t ≡ true → t ≡ eqb (length st) 1 && leb (get_or st 0 0) m → (length st ≡ 1) × (get_or st 0 0 ≤ m)
one_held t m st e h =
    let q = parts (eqb (length st) 1) (leb (get_or st 0 0) m) (passes _ (sym h ∙ e)) in
    (eqb→eq (length st) 1 q.0, leb→le (get_or st 0 0) m q.1)

-- the text of a QoS profile
qos_value : (c : ℕ) (st : List ℕ) → get_or st 0 0 < 100 → value_of current qos c st ≡ profile_text st
unfolding value_of profile_text text
qos_value c st h =
    let tens : get_or st 0 0 / 10 % 16 ≡ get_or st 0 0 / 10 = omega arith in
    let ones : get_or st 0 0 % 10 % 16 ≡ get_or st 0 0 % 10 = omega arith in
    rw (tens, ones)

pub profile_long : (st : List ℕ) → 1 ≤ length st → length (profile_text st) ≡ 1 + 2 * length st
unfolding profile_text
profile_long [] h = absurd (omega arith)
profile_long (x ∷ r) h =
    let e : suc (length r) - 1 ≡ length r = omega arith in
    rw e (omega (arith, whole_length r))

-- a shape without a form of its own stores nothing
formless : (s : Shape) (c : ℕ) (st : List ℕ) → leb 2 (form_of s) ≡ false → held s c st ≡ true → ⊥
unfolding held
formless s c st e h = let f : false ≡ true = rw e at h in not_both (sym f)

module _ (n c : ℕ) (st : List ℕ) (o : Octets st) where
  -- by the shape of the number
  told : (s : Shape) → shape_of n ≡ s → length st ≡ stored_length current (form_of s) c → held s c st ≡ true → Told s n (form_of s) c st
  unfolding form_of value_of value_as code_of
  told number e l h = record { value_is = refl; few = omega (arith, l, eqb→eq c 4 (passes _ (sym (number_held c st l) ∙ h))) }
  told address e l h = record { value_is = refl; few = omega (arith, l, eqb→eq c 4 (passes _ (sym (address_held c st l) ∙ h))) }
  told (digits a b) e l h =
      let most : b ≤ 15 = leb→le b 15 (parts (leb 1 a) (leb b 15) (subst (λ (s : Shape). T (fifteen s)) e (at_most_fifteen n))).1 in
      let taken : c ≤ b = leb→le c b (parts (leb a c) (leb c b) (parts (between a b c) (packed_digits c st) (passes _ (sym (digits_held a b c st l o) ∙ h))).0).1 in
      record { value_is = refl; few = omega (arith, text_length (unpack c st), unpack_length c st l) }
  told hexadecimal e l h = record { value_is = refl; few = omega (arith, whole_length st, l, eqb→eq c 8 (passes _ (sym (hexadecimal_held c st l o) ∙ h))) }
  told qos e l h = let p = profile st o (qos_counted c st ∙ h) in record { value_is = qos_value c st p.low; few = omega (arith, profile_long st p.some, p.few) }
  told hex_digit e l h =
      let p = one_held (held hex_digit c st) 15 st h (hex_digit_held c st) in
      record { value_is = rw e (one_text st p.0 (omega (arith, p.1))); few = omega arith }
  told any_octet e l h =
      let p : length st ≡ 1 = l ∙ eqb→eq c 1 (passes _ (sym (octet_held c st l) ∙ h)) in
      record { value_is = rw e (one_octet st p); few = omega arith }
  told decimal_digit e l h =
      let p = one_held (held decimal_digit c st) 9 st h (decimal_digit_held c st) in
      record { value_is = rw e (one_text st p.0 (omega (arith, p.1))); few = omega arith }
  told (at_least k) e l h = absurd (formless (at_least k) c st refl h)
  told (exactly k) e l h = absurd (formless (exactly k) c st refl h)
  told blocks e l h = absurd (formless blocks c st refl h)
  told free e l h = absurd (formless free c st refl h)

-- ---- In whatever form

-- the value of an item that some readable attribute gives, by its form; the attribute is no longer than an octet says
pub record Shown (n f c : ℕ) (st : List ℕ) : Type 0 where
  pub value_is : value_in current n f c st ≡ value_as n f c st
  pub short : head_length n + length (value_as n f c st) < 256

module _ (n f c : ℕ) (st : List ℕ) (o : Octets st) (long : length st ≡ stored_length current f c) (stands : stands_as n f c st ≡ true) where
  shown_raw : f < 2 → Shown n f c st
  unfolding stands_as value_as
  shown_raw h =
      let no : (k : ℕ) → 2 ≤ k → eqb f k ≡ false = λ k g. ne_eqb f k (λ e. omega arith) in
      let four = no 4 (omega arith) in
      let five = no 5 (omega arith) in
      let six = no 6 (omega arith) in
      let seven = no 7 (omega arith) in
      let r : raw n (code_of (shape_of n)) f st ≡ true = rw (lt-ltb f 2 h) at stands in
      record {
        value_is = rw (le-leb f 1 (omega arith), four, five, six, seven);
        short = rw (four, five, six, seven)
            (raw_short n (code_of (shape_of n)) f st r);
      }

  shown_shaped : 2 ≤ f → Shown n f c st
  unfolding stands_as shaped
  shown_shaped h =
      let s : eqb (form_of (shape_of n)) f && held (shape_of n) c st ≡ true = rw (le-ltb f 2 h) at stands in
      let q = parts (eqb (form_of (shape_of n)) f) (held (shape_of n) c st) (passes _ s) in
      let e : form_of (shape_of n) ≡ f = eqb→eq (form_of (shape_of n)) f q.0 in
      let k = subst (λ (g : ℕ). Told (shape_of n) n g c st) e (told n c st o (shape_of n) refl (long ∙ ap (λ (g : ℕ). stored_length current g c) (sym e)) (is_true _ q.1)) in
      record { value_is = rw (lt-leb f 1 (omega arith)) k.value_is; short = omega (arith, head_eight n, k.few) }

  pub shown : Shown n f c st
  shown = go (ltb f 2) refl
    where
      go : (b : Bool) → ltb f 2 ≡ b → Shown n f c st
      go true e = shown_raw (ltb-true f 2 e)
      go false e = shown_shaped (ltb-false f 2 e)
