-- The item of a value, by the shape of its number: what is made where the value meets the shape, and where it misses it, is the item
-- that is meant. Assumes nothing.
use mathlib.Core.Path.{◌≡◌, refl, sym, ap, subst, ◌∙◌}
use mathlib.Core.Bool.{Bool, true, false, cond}
use mathlib.Core.List.{List}
use Prim.Native.Nat.{ℕ, ◌+◌, ◌-◌, ◌/◌, ◌%◌, ◌<◌, ◌≤◌}
use native.Mathlib.Omega.{arith}
use lib.Dec.{T, eqb, leb, ltb, eqb→eq, leb→le}
use borrow.Author.Tests.{eq-eqb, ltb-true, ltb-false}
use lib.ListN.{length, get_or}
use Rattle.meaning.specs.Versions.{current}
use Rattle.meaning.specs.Octets.{all, is_digit, is_hex, number_of, digit_value, packed_length}
use Rattle.meaning.specs.Framing.{is_plain}
use Rattle.meaning.specs.Shapes.{Shape, number, address, digits, hexadecimal, qos, hex_digit, any_octet, decimal_digit, at_least, exactly, blocks, free, shape_of, meets}
use Rattle.meaning.specs.Sheet.{form_of, form, count, stored}
use Rattle.meaning.proofs.Tests.{parts, passes}
use Rattle.meaning.proofs.Forms.{raw_not_4}
use Rattle.octets.specs.declared.Digits.{Digits}
use Rattle.octets.specs.Parts.{part_of}
use Rattle.octets.specs.DigitStrings.{got_of}
use Rattle.octets.proofs.Parts.{part_rest}
use Rattle.octets.proofs.DigitStrings.{got_digits, got_some, got_none}
use Rattle.area.specs.declared.Part.{Part}
use Rattle.shape.specs.declared.Value.{Value}
use Rattle.shape.specs.declared.Value.TheVariants as is
use Rattle.shape.specs.declared.Item.{Item}
use Rattle.shape.specs.Codes.{code_of, shape_by}
use Rattle.shape.specs.Items.{value_by, digits_by, undigited, raw_item, item_for, item_at}
use Rattle.shape.proofs.Codes.{fifteen, at_most_fifteen}
use Rattle.shape.proofs.Meeting.{digits_few, digits_many, digits_all}
use Rattle.shape.proofs.Formed.{One, Formed, formed_as, form_own, form_raw, own_form, form_without, form_missed, form_met, text_size}
use Rattle.shape.proofs.Formed.{profile_size}

-- a value that stands as it is is stored so
stored_raw : (b : Bool) (c : ℕ) (v s : List ℕ) → Formed c (cond b 0 1) v s → s ≡ v
stored_raw true c v s e = e
stored_raw false c v s e = e

raw_value : (b : Bool) (v s : List ℕ) (p : Part) → is.Plain p ≡ value_by (cond b 0 1) v s p
unfolding value_by
raw_value true v s p = refl
raw_value false v s p = refl

-- v are the octets of the part p
module _ (n : ℕ) (v : List ℕ) (p : Part) where
  -- an item without digits, made of its form, its count and its value
  undigited_is :
      (f c : ℕ) (x : Value) → form current n v ≡ f → eqb f 4 ≡ false → length (stored current n v) ≡ c
      → x ≡ value_by f v (stored current n v) p
      → undigited n f c x ≡ item_for n v p
  unfolding undigited item_for count digits_by
  undigited_is f c x fs e cs xs = rw (fs, e, cs, xs)

  -- a value that is in no form of its own
  pub raw_is : form current n v ≡ cond (is_plain n) 0 1 → raw_item n (length v) p ≡ item_for n v p
  unfolding raw_item
  raw_is e =
      undigited_is (cond (is_plain n) 0 1) (length v) (is.Plain p) e (raw_not_4 (is_plain n))
      (ap length (stored_raw (is_plain n) (code_of (shape_of n)) v (stored current n v) (formed_as n v (cond (is_plain n) 0 1) e)))
      (raw_value (is_plain n) v (stored current n v) p)

  -- a value that misses the shape
  pub missed : (s : Shape) → shape_of n ≡ s → meets current s v ≡ false → raw_item n (length v) p ≡ item_for n v p
  missed s e m = raw_is (form_raw n v s e m)

  -- ---- Numbers and addresses

  pub item_number : shape_of n ≡ number → length v ≡ 4 → (x : ℕ) → x ≡ number_of (part_of v 0 4)
      → undigited n 2 4 (is.Number x) ≡ item_for n v p
  unfolding value_by form_of meets
  item_number e l x xs =
      let f : form current n v ≡ 2 = form_own n v number e (omega arith) (eq-eqb (length v) 4 l) in
      undigited_is 2 4 (is.Number x) f refl (ap length (formed_as n v 2 f).kept ∙ l)
      (ap is.Number (xs ∙ ap number_of (part_rest v 0 4 (omega arith))))

  pub item_address : shape_of n ≡ address → length v ≡ 4 → (x : ℕ) → x ≡ number_of (part_of v 0 4)
      → undigited n 3 4 (is.Address x) ≡ item_for n v p
  unfolding value_by form_of meets
  item_address e l x xs =
      let f : form current n v ≡ 3 = form_own n v address e (omega arith) (eq-eqb (length v) 4 l) in
      undigited_is 3 4 (is.Address x) f refl (ap length (formed_as n v 3 f).kept ∙ l)
      (ap is.Address (xs ∙ ap number_of (part_rest v 0 4 (omega arith))))

  -- ---- Digits

  module _ (a b : ℕ) (Shape-is : shape_of n ≡ digits a b) (some : a ≤ length v) (few : length v ≤ b) (got : Digits)
      (got_is : got ≡ got_of v) where
    -- so many octets are 1 to 15
    low_high : (1 ≤ length v) × (length v ≤ 15)
    low_high =
        let d : T (fifteen (digits a b)) = subst (λ (s : Shape). T (fifteen s)) Shape-is (at_most_fifteen n) in
        let h = parts (leb 1 a) (leb b 15) d in
        (omega (arith, leb→le 1 a h.0), omega (arith, leb→le b 15 h.1))

    -- how many digits are got of them tells whether they meet the shape
    got_met : (met : Bool) → all is_digit v ≡ met → got.len ≡ cond met (length v) 0
    got_met true e = rw got_is (got_some v low_high.0 low_high.1 e)
    got_met false e = rw got_is (got_none v e)

    none_misses : (met : Bool) → all is_digit v ≡ met → got.len ≡ 0 → met ≡ false
    none_misses true e z = absurd (omega (arith, got_met true e, low_high.0))
    none_misses false e z = refl

    some_meet : (met : Bool) → all is_digit v ≡ met → (got.len ≡ 0 → ⊥) → met ≡ true
    some_meet true e z = refl
    some_meet false e z = absurd (z (got_met false e))

    pub digits_missed : got.len ≡ 0 → raw_item n (length v) p ≡ item_for n v p
    digits_missed z = missed (digits a b) Shape-is (sym (digits_all v a b some few) ∙ none_misses _ refl z)

    pub item_digits : (got.len ≡ 0 → ⊥)
        → ◌≡◌ {A = Item} (record { number = n; form = 4; count = length v; value = is.Digits; digits = got }) (item_for n v p)
    unfolding item_for count value_by digits_by form_of
    item_digits z =
        let f : form current n v ≡ 4 =
        form_own n v (digits a b) Shape-is (omega arith) (sym (digits_all v a b some few) ∙ some_meet _ refl z) in
        let s = formed_as n v 4 f in
        rw (f, got_is, got_digits v s.some s.few s.decimal)

  -- ---- Text

  pub item_hexadecimal : shape_of n ≡ hexadecimal → meets current hexadecimal v ≡ true → undigited n 5 8 (is.Plain p) ≡ item_for n v p
  unfolding value_by form_of meets
  item_hexadecimal e m =
      let f : form current n v ≡ 5 = form_own n v hexadecimal e (omega arith) m in
      let l : length v ≡ 16 = eqb→eq (length v) 16 (parts (eqb (length v) 16) (all is_hex v) (passes _ m)).0 in
      undigited_is 5 8 (is.Plain p) f refl (text_size n v f ∙ ap packed_length l) refl

  module _ (Shape-is : shape_of n ≡ qos) (met : meets current qos v ≡ true) where
    profiled : form current n v ≡ 6
    unfolding form_of
    profiled = form_own n v qos Shape-is (omega arith) met

    -- a QoS profile has its release
    pub release_there : 3 ≤ length v
    release_there = (formed_as n v 6 profiled).long

    pub item_qos : (k : ℕ) → k ≡ packed_length (length v - 3) → undigited n 6 (1 + k) (is.Plain p) ≡ item_for n v p
    unfolding value_by
    item_qos k ks =
        undigited_is 6 (1 + k) (is.Plain p) profiled refl
        (omega (arith, ks, profile_size n v profiled)) refl

  -- ---- One octet

  module _ (code : ℕ) (code_is : code ≡ code_of (shape_of n)) (one : code / 10 ≡ 7) where
    pub octet_missed : meets current (shape_by code) v ≡ false → raw_item n (length v) p ≡ item_for n v p
    octet_missed m = raw_is (form_missed n v code code_is m)

    module _ (met : meets current (shape_by code) v ≡ true) where
      single : form current n v ≡ 7
      single = form_met n v code code_is (omega arith) met ∙ one

      told : One code v (stored current n v)
      told = rw code_is (formed_as n v 7 single)

      pub octet_there : 0 < length v
      octet_there = omega (arith, told.long)

      pub item_octet : (x : ℕ) → x ≡ cond (eqb code 71) (get_or v 0 0) (digit_value (get_or v 0 0) % 16)
          → undigited n 7 1 (is.Number x) ≡ item_for n v p
      unfolding value_by number_of
      item_octet x xs =
          undigited_is 7 1 (is.Number x) single refl (ap length told.octet) (rw told.octet (ap is.Number (omega (arith, xs))))

-- a number whose shape has no form of its own
pub item_raw : (n : ℕ) (v : List ℕ) (p : Part) → form_of (shape_of n) ≡ 0 → raw_item n (length v) p ≡ item_for n v p
item_raw n v p none = raw_is n v p (form_without n v (code_of (shape_of n)) refl (omega (arith, own_form n (code_of (shape_of n)) refl)))

-- the octets v are the part p of the area
pub item_there : (area : List ℕ) (n : ℕ) (p : Part) (v : List ℕ) → v ≡ part_of area p.start p.len → item_for n v p ≡ item_at area n p
unfolding item_at
item_there area n p v part_is = rw part_is

-- of a shape that is digits: no digits are got of what misses it
not_got :
    (n : ℕ) (v : List ℕ) (p : Part) (s : Shape) → shape_of n ≡ s → form_of s ≡ 4 → (got_of v).len ≡ 0
    → item_for n v p ≡ raw_item n (length v) p
unfolding form_of
not_got n v p number e f z = absurd (omega arith)
not_got n v p address e f z = absurd (omega arith)
not_got n v p hexadecimal e f z = absurd (omega arith)
not_got n v p qos e f z = absurd (omega arith)
not_got n v p hex_digit e f z = absurd (omega arith)
not_got n v p any_octet e f z = absurd (omega arith)
not_got n v p decimal_digit e f z = absurd (omega arith)
not_got n v p (at_least k) e f z = absurd (omega arith)
not_got n v p (exactly k) e f z = absurd (omega arith)
not_got n v p blocks e f z = absurd (omega arith)
not_got n v p free e f z = absurd (omega arith)
not_got n v p (digits a b) e f z = sym (go (ltb (length v) a) (ltb b (length v)) refl refl)
  where
    go : (x y : Bool) → ltb (length v) a ≡ x → ltb b (length v) ≡ y → raw_item n (length v) p ≡ item_for n v p
    go true y h g = missed n v p (digits a b) e (sym (digits_few v a b (ltb-true (length v) a h)))
    go false true h g = missed n v p (digits a b) e (sym (digits_many v a b (ltb-true b (length v) g)))
    go false false h g = digits_missed n v p a b e (ltb-false (length v) a h) (ltb-false b (length v) g) (got_of v) refl z

-- a value of which no digits are got
pub digits_not_got : (n : ℕ) (v : List ℕ) (p : Part) → form_of (shape_of n) ≡ 4 → (got_of v).len ≡ 0
    → item_for n v p ≡ raw_item n (length v) p
digits_not_got n v p f z = not_got n v p (shape_of n) refl f z
