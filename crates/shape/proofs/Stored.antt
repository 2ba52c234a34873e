-- An item of the code is the item that the definitions write: what it stores, and its whole octets. Assumes nothing.
use mathlib.Core.Path.{◌≡◌, refl, sym, ap, ap₂, ◌∙◌}
use mathlib.Core.List.{List, [], ◌∷◌}
use Prim.Native.Nat.{ℕ, zero, suc, ◌+◌, ◌*◌, ◌%◌, ◌<◌}
use native.Mathlib.Nat.{mod-eq_of_lt}
use native.Mathlib.Omega.{arith}
use lib.ListN.{length, drop, get_or}
use Rattle.meaning.specs.Versions.{current}
use Rattle.meaning.specs.Octets.{Octets, number_of, octets_of, digit_value, values, pack}
use Rattle.meaning.specs.Shapes.{shape_of}
use Rattle.meaning.specs.Sheet.{type_of, sub_of, form, count, stored, item}
use Rattle.meaning.proofs.Numbers.{octets_back}
use Rattle.meaning.proofs.Forms.{stored_octets, form_range}
use Rattle.octets.specs.Parts.{part_of}
use Rattle.octets.specs.DigitStrings.{halves, digits_of, got_of, packed_of}
use Rattle.octets.proofs.Parts.{part_octets}
use Rattle.octets.proofs.Halves.{halves_as_stored}
use Rattle.octets.proofs.DigitStrings.{got_digits, packed_as_stored}
use Rattle.area.specs.declared.Part.{Part}
use Rattle.shape.specs.Codes.{code_of}
use Rattle.shape.specs.Items.{value_by, digits_by, item_for, item_at, stored_part, stored_value, stored_in}
use Rattle.shape.proofs.Formed.{Four, Digital, Profile, One, Formed, formed}

each_form : (P : ℕ → Type 0) → P 0 → P 1 → P 2 → P 3 → P 4 → P 5 → P 6 → P 7 → (f : ℕ) → f < 8 → P f
each_form P a b c d e g h i zero l = a
each_form P a b c d e g h i (suc zero) l = b
each_form P a b c d e g h i (suc (suc zero)) l = c
each_form P a b c d e g h i (suc (suc (suc zero))) l = d
each_form P a b c d e g h i (suc (suc (suc (suc zero)))) l = e
each_form P a b c d e g h i (suc (suc (suc (suc (suc zero))))) l = g
each_form P a b c d e g h i (suc (suc (suc (suc (suc (suc zero)))))) l = h
each_form P a b c d e g h i (suc (suc (suc (suc (suc (suc (suc zero))))))) l = i
each_form P a b c d e g h i (suc (suc (suc (suc (suc (suc (suc (suc f)))))))) l = absurd (omega arith)

-- the octets v are stored as s
module _ (v s : List ℕ) where
  four_stored : Octets v → Four v s → octets_of 4 (number_of v) ≡ s
  four_stored o w = rw w.long at (octets_back v o) ∙ sym w.kept

  digits_stored : Digital v s → packed_of (digits_of (values v)) ≡ s
  digits_stored w =
      let e : got_of v ≡ digits_of (values v) = rw (got_digits v w.some w.few w.decimal) in
      rw (← e) (packed_as_stored v w.some w.few w.decimal) ∙ sym w.packed

  profile_stored : Octets s → Profile v s → ((digit_value (get_or v 0 0) * 10 + digit_value (get_or v 1 0)) % 256) ∷ pack (halves (drop 3 v)) ≡ s
  profile_stored o w =
      let o' = rw w.packed at o in
      ap₂ ◌∷◌ (mod-eq_of_lt o'.0) (halves_as_stored (drop 3 v) w.hexes) ∙ sym w.packed

  octet_stored : (c : ℕ) → Octets s → One c v s → (number_of s % 256) ∷ [] ≡ s
  unfolding number_of
  octet_stored c o w = go s (ap length w.octet) o
    where
      go : (s : List ℕ) → length s ≡ 1 → Octets s → (number_of s % 256) ∷ [] ≡ s
      go [] l o = absurd (omega arith)
      go (x ∷ []) l o = ap (λ (y : ℕ). y ∷ []) (omega (arith, o.0))
      go (x ∷ y ∷ s) l o = absurd (omega arith)

-- of each form
form_stored : (area v s : List ℕ) (p : Part) (c : ℕ) → v ≡ part_of area p.start p.len → Octets v → Octets s
    → (f : ℕ) → f < 8 → Formed c f v s → stored_value area f (value_by f v s p) (digits_by f v) ≡ s
unfolding stored_value stored_part value_by digits_by
form_stored area v s p c e o os =
    each_form (λ f. Formed c f v s → stored_value area f (value_by f v s p) (digits_by f v) ≡ s)
    (λ w. sym e ∙ sym w)
    (λ w. sym e ∙ sym w)
    (λ w. four_stored v s o w)
    (λ w. four_stored v s o w)
    (λ w. digits_stored v s w)
    (λ w. rw (← e) (halves_as_stored v w.hexes ∙ sym w.packed))
    (λ w. rw (← e) (profile_stored v s os w))
    (λ w. octet_stored v s c os w)

-- What an item stores of its area is what is meant to be stored of the value.
pub stored_as_meant : (area : List ℕ) (number : ℕ) (value : Part) → Octets area
    → stored_in area (item_at area number value) ≡ stored current number (part_of area value.start value.len)
unfolding stored_in item_at item_for
stored_as_meant area n p o =
    let v : List ℕ = part_of area p.start p.len in
    let ov : Octets v = part_octets area p.start p.len o in
    form_stored area v (stored current n v) p (code_of (shape_of n)) refl ov (stored_octets current n v ov) (form current n v) (form_range current n v) (formed n v)

-- The octets of an item are those of the sheet's item of the value.
pub item_as_meant : (area : List ℕ) (number : ℕ) (value : Part) → Octets area
    → (let i = item_at area number value in
    type_of i.number ∷ sub_of i.number ∷ i.form ∷ i.count ∷ stored_in area i
    ≡ item current number (part_of area value.start value.len))
unfolding item item_at item_for
item_as_meant area n p o =
    let v : List ℕ = part_of area p.start p.len in
    ap (λ (s : List ℕ). type_of n ∷ sub_of n ∷ form current n v ∷ count current n v ∷ s) (stored_as_meant area n p o)
