-- The forms: a value comes back from what is stored of it, a form from 2 to 7 is used where the value meets its shape and nowhere else,
-- and what is stored is no longer than the value. Assumes nothing.
use mathlib.Core.Path.{◌≡◌, refl, sym, ap, ◌∙◌}
use mathlib.Core.Logic.{◌⊎◌, inl, inr, ⊎_elim, ◌↔◌}
use mathlib.Core.Bool.{Bool, true, false, cond, ◌&&◌}
use mathlib.Core.List.{List, [], ◌∷◌}
use Prim.Native.Nat.{ℕ, suc, ◌+◌, ◌*◌, ◌-◌, ◌/◌, ◌%◌, ◌<◌, ◌≤◌}
use native.Mathlib.Omega.{arith}
use lib.Dec.{T, eqb, leb, eqb→eq, leb→le}
use borrow.Author.Tests.{lt-leb, le-leb, eq-eqb, eqb-true}
use lib.ListN.{length, take, drop, get_or, length-drop}
use Rattle.meaning.specs.Octets.{between, all, same, Octets, is_digit, digit_value, digit_text, values, text, pack, packed_length}
use Rattle.meaning.specs.Versions.{Version, one, terms_of, is_hex_in, form_named}
use Rattle.meaning.specs.Framing.{is_plain}
use Rattle.meaning.specs.Shapes.{Shape, number, address, digits, hexadecimal, qos, hex_digit, any_octet, decimal_digit, at_least, exactly}
use Rattle.meaning.specs.Shapes.{blocks, free, shape_of, release, meets}
use Rattle.meaning.specs.Sheet.{form_of, stored_of, value_of, decodes, form, stored, count, stored_length, value_in}
use Rattle.meaning.proofs.Packing.{Hexes, digits_hexes, hexes_octets, values_length, pack_length, packed_values, text_values}
use Rattle.meaning.proofs.Packing.{text_back, text_back_even, values_halves, halves_octets, packed_octets}
use Rattle.meaning.proofs.Tests.{parts, either, passes, not_both, same_one}

-- The hexadecimal digits of a version are digits whose text comes back.
hexes_in : (ver : Version) (v : List ℕ) → T (all (is_hex_in ver) v) → Hexes v
hexes_in one v t = t

-- ---- Only-form

-- the shape of the number has a form of its own
abbrev pub HasForm : (n : ℕ) → Type 0
HasForm n = T (leb 2 (form_of (shape_of n)))

-- the forms of a value that stands as it is are 0 and 1
pub raw_low : (b : Bool) → cond b 0 1 ≤ 1
raw_low true = omega arith
raw_low false = omega arith

-- "used exactly when the value meets": a form from 2 to 7, where the number has one.
pub only_form : (ver : Version) (n : ℕ) (v : List ℕ) → T (leb 2 (form ver n v)) ↔ (HasForm n × T (meets ver (shape_of n) v))
unfolding form decodes
only_form ver n v = (there, back)
  where
    there :
        T (leb 2 (cond (leb 2 (form_of (shape_of n)) && meets ver (shape_of n) v) (form_of (shape_of n)) (cond (is_plain n) 0 1)))
        → HasForm n × T (meets ver (shape_of n) v)
    there = go (leb 2 (form_of (shape_of n))) (meets ver (shape_of n) v) refl
      where
        go :
            (a b : Bool) → leb 2 (form_of (shape_of n)) ≡ a → T (leb 2 (cond (a && b) (form_of (shape_of n)) (cond (is_plain n) 0 1)))
            → T a × T b
        go true true e t = (tt, tt)
        go true false e t = absurd (rw (lt-leb 2 (cond (is_plain n) 0 1) (omega (arith, raw_low (is_plain n)))) at t)
        go false b e t = absurd (rw (lt-leb 2 (cond (is_plain n) 0 1) (omega (arith, raw_low (is_plain n)))) at t)

    back :
        HasForm n × T (meets ver (shape_of n) v)
        → T (leb 2 (cond (leb 2 (form_of (shape_of n)) && meets ver (shape_of n) v) (form_of (shape_of n)) (cond (is_plain n) 0 1)))
    back p = go (leb 2 (form_of (shape_of n))) (meets ver (shape_of n) v) refl p.0 p.1
      where
        go :
            (a b : Bool) → leb 2 (form_of (shape_of n)) ≡ a → T a → T b
            → T (leb 2 (cond (a && b) (form_of (shape_of n)) (cond (is_plain n) 0 1)))
        go true true e s t = rw e tt
        go true false e s t = absurd t
        go false b e s t = absurd s

-- ---- The value comes back

-- what a QoS text of a release is made of
pub record Released (a b n : ℕ) (v : List ℕ) : Type 0 where
  pub front : take 3 v ≡ a ∷ b ∷ 45 ∷ []
  pub long : length v ≡ 3 + n
  pub hexes : Hexes (drop 3 v)

pub released : (ver : Version) (a b n : ℕ) (v : List ℕ) → T (release ver a b n v) → Released a b n v
released ver a b n v t =
    let u : T (eqb (length v) (3 + n) && all (is_hex_in ver) (drop 3 v)) = (parts (same (take 3 v) (a ∷ b ∷ 45 ∷ [])) _ t).1 in
    record {
      front = same_one (take 3 v) (a ∷ b ∷ 45 ∷ []) (parts (same (take 3 v) (a ∷ b ∷ 45 ∷ [])) (eqb (length v) (3 + n) && all (is_hex_in ver) (drop 3 v)) t).0;
      long = eqb→eq (length v) (3 + n) (parts (eqb (length v) (3 + n)) (all (is_hex_in ver) (drop 3 v)) u).0;
      hexes = hexes_in ver (drop 3 v) (parts (eqb (length v) (3 + n)) (all (is_hex_in ver) (drop 3 v)) u).1;
    }

released_octets : (a b n : ℕ) (v : List ℕ) → a < 256 → b < 256 → Released a b n v → Octets v
released_octets a b n [] h g r = tt
released_octets a b n (x ∷ []) h g r = absurd (omega (arith, r.long))
released_octets a b n (x ∷ y ∷ []) h g r = absurd (omega (arith, r.long))
released_octets a b n (x ∷ y ∷ z ∷ v) h g r =
    let e : x ∷ y ∷ z ∷ [] ≡ a ∷ b ∷ 45 ∷ [] = r.front in
    let ex : x ≡ a = cc in
    let ey : y ≡ b = cc in
    let ez : z ≡ 45 = cc in
    (omega arith, (omega arith, (omega arith, hexes_octets v r.hexes)))

release_octet :
    (a b n : ℕ) (v : List ℕ) → digit_value a < 16 → digit_value b < 16 → Released a b n v
    → digit_value (get_or v 0 0) * 10 + digit_value (get_or v 1 0) < 256
release_octet a b n [] h g r = absurd (omega (arith, r.long))
release_octet a b n (x ∷ []) h g r = absurd (omega (arith, r.long))
release_octet a b n (x ∷ y ∷ []) h g r = absurd (omega (arith, r.long))
release_octet a b n (x ∷ y ∷ z ∷ v) h g r =
    let e : x ∷ y ∷ z ∷ [] ≡ a ∷ b ∷ 45 ∷ [] = r.front in
    let ex : x ≡ a = cc in
    let ey : y ≡ b = cc in
    rw (ex, ey) (omega arith)

qos_back :
    (ver : Version) (a b k : ℕ) (v : List ℕ) → digit_text (digit_value a) ≡ a → digit_text (digit_value b) ≡ b → digit_value b < 10
    → Released a b (2 * k) v → (c : ℕ) → value_of ver qos c (stored_of ver qos v) ≡ v
unfolding value_of stored_of text
qos_back ver a b k [] ea eb low r c = absurd (omega (arith, r.long))
qos_back ver a b k (x ∷ []) ea eb low r c = absurd (omega (arith, r.long))
qos_back ver a b k (x ∷ y ∷ []) ea eb low r c = absurd (omega (arith, r.long))
qos_back ver a b k (x ∷ y ∷ z ∷ v) ea eb low r c =
    let e : x ∷ y ∷ z ∷ [] ≡ a ∷ b ∷ 45 ∷ [] = r.front in
    let n : suc (suc (suc (length v))) ≡ 3 + 2 * k = r.long in
    let ex : x ≡ a = cc in
    let ey : y ≡ b = cc in
    let ez : z ≡ 45 = cc in
    let high : (digit_value a * 10 + digit_value b) / 10 ≡ digit_value a = omega arith in
    let low : (digit_value a * 10 + digit_value b) % 10 ≡ digit_value b = omega arith in
    let one : suc (length (pack (values v))) - 1 ≡ length (pack (values v)) = omega arith in
    rw (ex, ey, ez, high, low, one, ea, eb) (ap (λ (l : List ℕ). a ∷ b ∷ 45 ∷ l) (text_back_even v k (omega arith) r.hexes))

-- The value comes back from the octets it is stored in; the count serves form 4 alone.
pub value_back :
    (ver : Version) (s : Shape) (v : List ℕ) (c : ℕ) → T (leb 2 (form_of s)) → T (meets ver s v) → (form_of s ≡ 4 → c ≡ length v)
    → value_of ver s c (stored_of ver s v) ≡ v
unfolding form_of meets value_of stored_of
value_back ver number v c f t e = refl
value_back ver address v c f t e = refl
value_back ver (digits a b) v c f t e = rw (e refl) (text_back v (digits_hexes v (parts (between a b (length v)) (all is_digit v) t).1))
value_back ver hexadecimal v c f t e =
    text_back_even v 8 (eqb→eq (length v) 16 (parts (eqb (length v) 16) (all (is_hex_in ver) v) t).0) (hexes_in ver v (parts (eqb (length v) 16) (all (is_hex_in ver) v) t).1)
value_back ver qos v c f t e =
    ⊎_elim (λ u. qos_back ver 57 56 3 v refl refl (omega arith) (released ver 57 56 6 v u) c)
    (λ u. qos_back ver 57 57 11 v refl refl (omega arith) (released ver 57 57 22 v u) c)
    (either (release ver 57 56 6 v) (release ver 57 57 22 v) t)
value_back ver hex_digit v c f t e = text_values v (hexes_in ver v (parts (eqb (length v) 1) (all (is_hex_in ver) v) t).1)
value_back ver any_octet v c f t e = refl
value_back ver decimal_digit v c f t e = text_values v (digits_hexes v (parts (eqb (length v) 1) (all is_digit v) t).1)
value_back ver (at_least n) v c f t e = absurd f
value_back ver (exactly n) v c f t e = absurd f
value_back ver blocks v c f t e = absurd f
value_back ver free v c f t e = absurd f

-- ---- Lengths

-- What is stored of a value that meets its shape is no longer than the value.
stored_shorter : (ver : Version) (s : Shape) (v : List ℕ) → T (meets ver s v) → length (stored_of ver s v) ≤ length v
unfolding meets stored_of
stored_shorter ver number v t = omega arith
stored_shorter ver address v t = omega arith
stored_shorter ver (digits a b) v t = omega (arith, pack_length (values v), values_length v)
stored_shorter ver hexadecimal v t = omega (arith, pack_length (values v), values_length v)
stored_shorter ver qos v t =
    ⊎_elim (λ u. omega (arith, (released ver 57 56 6 v u).long, pack_length (values (drop 3 v)), values_length (drop 3 v), length-drop 3 v))
    (λ u. omega (arith, (released ver 57 57 22 v u).long, pack_length (values (drop 3 v)), values_length (drop 3 v), length-drop 3 v))
    (either (release ver 57 56 6 v) (release ver 57 57 22 v) t)
stored_shorter ver hex_digit v t = omega (arith, values_length v)
stored_shorter ver any_octet v t = omega arith
stored_shorter ver decimal_digit v t = omega (arith, values_length v)
stored_shorter ver (at_least n) v t = omega arith
stored_shorter ver (exactly n) v t = omega arith
stored_shorter ver blocks v t = omega arith
stored_shorter ver free v t = omega arith

-- The stored octets of form 4 are half the digits, rounded up.
digits_stored : (ver : Version) (s : Shape) (v : List ℕ) → form_of s ≡ 4 → length (stored_of ver s v) ≡ packed_length (length v)
unfolding form_of stored_of
digits_stored ver number v e = absurd (omega arith)
digits_stored ver address v e = absurd (omega arith)
digits_stored ver (digits a b) v e = packed_values v
digits_stored ver hexadecimal v e = absurd (omega arith)
digits_stored ver qos v e = absurd (omega arith)
digits_stored ver hex_digit v e = absurd (omega arith)
digits_stored ver any_octet v e = absurd (omega arith)
digits_stored ver decimal_digit v e = absurd (omega arith)
digits_stored ver (at_least n) v e = absurd (omega arith)
digits_stored ver (exactly n) v e = absurd (omega arith)
digits_stored ver blocks v e = absurd (omega arith)
digits_stored ver free v e = absurd (omega arith)

-- A value that meets a shape with a form of its own is made of octets if what is stored of it is.
value_octets : (ver : Version) (s : Shape) (v : List ℕ) → T (meets ver s v) → Octets (stored_of ver s v) → Octets v
unfolding meets stored_of
value_octets ver number v t o = o
value_octets ver address v t o = o
value_octets ver (digits a b) v t o = hexes_octets v (digits_hexes v (parts (between a b (length v)) (all is_digit v) t).1)
value_octets ver hexadecimal v t o = hexes_octets v (hexes_in ver v (parts (eqb (length v) 16) (all (is_hex_in ver) v) t).1)
value_octets ver qos v t o =
    ⊎_elim (λ u. released_octets 57 56 6 v (omega arith) (omega arith) (released ver 57 56 6 v u))
    (λ u. released_octets 57 57 22 v (omega arith) (omega arith) (released ver 57 57 22 v u))
    (either (release ver 57 56 6 v) (release ver 57 57 22 v) t)
value_octets ver hex_digit v t o = hexes_octets v (hexes_in ver v (parts (eqb (length v) 1) (all (is_hex_in ver) v) t).1)
value_octets ver any_octet v t o = o
value_octets ver decimal_digit v t o = hexes_octets v (digits_hexes v (parts (eqb (length v) 1) (all is_digit v) t).1)
value_octets ver (at_least n) v t o = o
value_octets ver (exactly n) v t o = o
value_octets ver blocks v t o = o
value_octets ver free v t o = o

-- ---- The same of an item: its number, and its value in whatever form

-- in an item's form 4 the number has form 4, and the value meets its shape
pub record Plainly (ver : Version) (n : ℕ) (v : List ℕ) : Type 0 where
  pub form_is : form ver n v ≡ cond (is_plain n) 0 1
  pub stored_is : stored ver n v ≡ v

pub record Decoded (ver : Version) (n : ℕ) (v : List ℕ) : Type 0 where
  pub own : HasForm n
  pub met : T (meets ver (shape_of n) v)
  pub form_is : form ver n v ≡ form_of (shape_of n)
  pub stored_is : stored ver n v ≡ stored_of ver (shape_of n) v

pub either_way : (ver : Version) (n : ℕ) (v : List ℕ) → Decoded ver n v ⊎ Plainly ver n v
unfolding form stored decodes
either_way ver n v = go (leb 2 (form_of (shape_of n)) && meets ver (shape_of n) v) refl
  where
    go : (b : Bool) → leb 2 (form_of (shape_of n)) && meets ver (shape_of n) v ≡ b → Decoded ver n v ⊎ Plainly ver n v
    go true e =
        inl (record {
          own = (parts (leb 2 (form_of (shape_of n))) (meets ver (shape_of n) v) (passes _ e)).0;
          met = (parts (leb 2 (form_of (shape_of n))) (meets ver (shape_of n) v) (passes _ e)).1;
          form_is = rw e;
          stored_is = rw e;
        })
    go false e = inr (record { form_is = rw e; stored_is = rw e })

own_low : (s : Shape) → form_of s < 8
unfolding form_of
own_low number = omega arith
own_low address = omega arith
own_low (digits a b) = omega arith
own_low hexadecimal = omega arith
own_low qos = omega arith
own_low hex_digit = omega arith
own_low any_octet = omega arith
own_low decimal_digit = omega arith
own_low (at_least n) = omega arith
own_low (exactly n) = omega arith
own_low blocks = omega arith
own_low free = omega arith

-- The forms are 0 to 7.
pub form_range : (ver : Version) (n : ℕ) (v : List ℕ) → form ver n v < 8
form_range ver n v = ⊎_elim (λ d. rw d.form_is (own_low (shape_of n))) (λ p. omega (arith, p.form_is, raw_low (is_plain n))) (either_way ver n v)

-- A form below 8 is named by its own octet, in every version.
form_named_lem : (ver : Version) (f : ℕ) → f < 8 → form_named ver f ≡ f
form_named_lem ver f h = go (terms_of ver).shared_items
  where
    go : (b : Bool) → cond (b && leb 128 f) (f - 128) f ≡ f
    go true = rw (lt-leb 128 f (omega arith))
    go false = refl

pub raw_not_4 : (b : Bool) → eqb (cond b 0 1) 4 ≡ false
raw_not_4 true = refl
raw_not_4 false = refl

-- An item announces as many octets as it stores.
pub announced : (ver : Version) (n : ℕ) (v : List ℕ) → stored_length ver (form ver n v) (count ver n v) ≡ length (stored ver n v)
unfolding count
announced ver n v = rw (form_named_lem ver (form ver n v) (form_range ver n v)) (go (eqb (form ver n v) 4) refl (either_way ver n v))
  where
    go :
        (b : Bool) → eqb (form ver n v) 4 ≡ b → Decoded ver n v ⊎ Plainly ver n v
        → cond b (packed_length (cond b (length v) (length (stored ver n v)))) (cond b (length v) (length (stored ver n v)))
        ≡ length (stored ver n v)
    go false e w = refl
    go true e (inl d) =
        sym (ap length d.stored_is ∙ digits_stored ver (shape_of n) v (sym d.form_is ∙ eqb-true (form ver n v) 4 e))
    go true e (inr p) = let f : true ≡ false = sym e ∙ rw p.form_is (raw_not_4 (is_plain n)) in not_both f

-- An item stands for its value.
pub stands_for_lem : (ver : Version) (n : ℕ) (v : List ℕ) → value_in ver n (form ver n v) (count ver n v) (stored ver n v) ≡ v
unfolding count
stands_for_lem ver n v = go (either_way ver n v)
  where
    go : Decoded ver n v ⊎ Plainly ver n v → value_in ver n (form ver n v) (count ver n v) (stored ver n v) ≡ v
    go (inl d) =
        let low : leb (form_of (shape_of n)) 1 ≡ false = lt-leb (form_of (shape_of n)) 1 (leb→le 2 _ d.own) in
        rw (d.form_is, low, d.stored_is)
        (value_back ver (shape_of n) v (cond (eqb (form_of (shape_of n)) 4) (length v) (length (stored_of ver (shape_of n) v))) d.own d.met
        (λ e. rw (eq-eqb (form_of (shape_of n)) 4 e)))
    go (inr p) = rw (p.form_is, p.stored_is, le-leb (cond (is_plain n) 0 1) 1 (raw_low (is_plain n)))

-- What is stored is no longer than the value.
pub stored_le : (ver : Version) (n : ℕ) (v : List ℕ) → length (stored ver n v) ≤ length v
stored_le ver n v = ⊎_elim (λ d. rw d.stored_is (stored_shorter ver (shape_of n) v d.met)) (λ p. rw p.stored_is (omega arith)) (either_way ver n v)

-- The count is no more than the value's octets.
pub count_le : (ver : Version) (n : ℕ) (v : List ℕ) → count ver n v ≤ length v
unfolding count
count_le ver n v = go (eqb (form ver n v) 4)
  where
    go : (b : Bool) → cond b (length v) (length (stored ver n v)) ≤ length v
    go true = omega arith
    go false = stored_le ver n v

-- A value is made of octets if what is stored of it is.
pub octets_from_stored : (ver : Version) (n : ℕ) (v : List ℕ) → Octets (stored ver n v) → Octets v
octets_from_stored ver n v o =
    ⊎_elim (λ d. value_octets ver (shape_of n) v d.met (rw d.stored_is at o)) (λ p. rw p.stored_is at o) (either_way ver n v)

-- What is stored of octets is octets.
shape_octets : (ver : Version) (s : Shape) (v : List ℕ) → T (meets ver s v) → Octets v → Octets (stored_of ver s v)
unfolding meets stored_of
shape_octets ver number v t o = o
shape_octets ver address v t o = o
shape_octets ver (digits a b) v t o = packed_octets v (digits_hexes v (parts (between a b (length v)) (all is_digit v) t).1)
shape_octets ver hexadecimal v t o = packed_octets v (hexes_in ver v (parts (eqb (length v) 16) (all (is_hex_in ver) v) t).1)
shape_octets ver qos v t o =
    ⊎_elim (λ u. (release_octet 57 56 6 v (omega arith) (omega arith) (released ver 57 56 6 v u), packed_octets (drop 3 v) (released ver 57 56 6 v u).hexes))
    (λ u. (release_octet 57 57 22 v (omega arith) (omega arith) (released ver 57 57 22 v u), packed_octets (drop 3 v) (released ver 57 57 22 v u).hexes))
    (either (release ver 57 56 6 v) (release ver 57 57 22 v) t)
shape_octets ver hex_digit v t o = halves_octets (values v) (values_halves v (hexes_in ver v (parts (eqb (length v) 1) (all (is_hex_in ver) v) t).1))
shape_octets ver any_octet v t o = o
shape_octets ver decimal_digit v t o = halves_octets (values v) (values_halves v (digits_hexes v (parts (eqb (length v) 1) (all is_digit v) t).1))
shape_octets ver (at_least n) v t o = o
shape_octets ver (exactly n) v t o = o
shape_octets ver blocks v t o = o
shape_octets ver free v t o = o

pub stored_octets : (ver : Version) (n : ℕ) (v : List ℕ) → Octets v → Octets (stored ver n v)
stored_octets ver n v o =
    ⊎_elim (λ d. rw d.stored_is (shape_octets ver (shape_of n) v d.met o)) (λ p. rw p.stored_is o) (either_way ver n v)
