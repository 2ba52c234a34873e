-- Bounds of a sheet: it has at most twice the area's octets and nine more, its item count fits 16 bits, and it is made of octets,
-- its counts among them. Assumes nothing.
use mathlib.Core.Path.{◌≡◌, refl, ap}
use mathlib.Core.Logic.{inl, inr}
use mathlib.Core.Bool.{Bool, true, false, cond, ◌&&◌}
use mathlib.Core.List.{List, [], ◌∷◌}
use Prim.Native.Nat.{ℕ, ◌+◌, ◌*◌, ◌-◌, ◌<◌, ◌≤◌}
use native.Mathlib.Omega.{arith}
use lib.Dec.{leb, leb→le}
use borrow.Author.Tests.{ltb-true}
use lib.ListN.{length, length-append}
use Rattle.meaning.specs.Octets.{Octets, octets_of}
use Rattle.meaning.specs.Jobs.{is_kind, are_flags}
use Rattle.meaning.specs.Versions.{Version}
use Rattle.meaning.specs.Framing.{is_plain, Attribute, attribute_octets, area_of, Carried, All, walk, attributes}
use Rattle.meaning.specs.Sheet.{type_of, sub_of, form, count, item, items_of, sheet_head, sheet_with, sheet_as, Readable}
use Rattle.meaning.specs.Breaches.{Among}
use Rattle.meaning.proofs.Tests.{parts, passes, in_among}
use Rattle.meaning.proofs.Octets.{octets_append}
use Rattle.meaning.proofs.Numbers.{octets_octets}
use Rattle.meaning.proofs.Forms.{stored_le, count_le, stored_octets, form_range}
use Rattle.meaning.proofs.Framing.{plain_lines, gpp_lines}
use Rattle.meaning.proofs.Walked.{walked_area, area_back}
use Rattle.meaning.proofs.Framing.{head_two, attribute_long}
use Rattle.meaning.proofs.Sheets.{clear, area_long}

-- ---- The length

item_bound : (ver : Version) (n : ℕ) (v : List ℕ) → length (item ver n v) ≤ 2 * length (attribute_octets n v)
unfolding item
item_bound ver n v = omega (arith, stored_le ver n v, attribute_long n v, head_two n)

items_bound : (ver : Version) (l : List Attribute) → length (items_of ver l) ≤ 2 * length (area_of l)
unfolding items_of area_of
items_bound ver [] = omega arith
items_bound ver (a ∷ l) =
    omega (arith, items_bound ver l, item_bound ver a.number a.value, length-append (item ver a.number a.value) (items_of ver l), length-append (attribute_octets a.number a.value) (area_of l))

pub sheet_length : (ver : Version) (kind flags : ℕ) (l : List Attribute) → length (sheet_with ver kind flags l) ≡ 9 + length (items_of ver l)
unfolding sheet_with sheet_head octets_of
sheet_length ver kind flags l = omega arith

-- "never longer than 9 + 2", times the area's length: the sheet of a readable area.
pub sheet_bound :
    (ver : Version) (kind flags : ℕ) (area : List ℕ) → Readable kind flags area
    → length (sheet_as ver kind flags area) ≤ 9 + 2 * length area
unfolding sheet_as
sheet_bound ver kind flags area r =
    let c = clear kind flags area r.accepted in
    let e : area_of (attributes (walk area)) ≡ area = area_back area r.octets c.sound in
    omega (arith, sheet_length ver kind flags (attributes (walk area)), items_bound ver (attributes (walk area)), ap length e)

-- It has at most 2,038 items, so that their number fits 16 bits.
pub items_fit : (kind flags : ℕ) (area : List ℕ) → Readable kind flags area → length (attributes (walk area)) ≤ 2038
items_fit kind flags area r =
    let c = clear kind flags area r.accepted in
    let e : area_of (attributes (walk area)) ≡ area = area_back area r.octets c.sound in
    omega (arith, area_long (attributes (walk area)), ap length e, c.short)

-- ---- The octets

value_short : (a : Attribute) → Carried a → length a.value ≤ 253
value_short a c = go (is_plain a.number) refl
  where
    go : (b : Bool) → is_plain a.number ≡ b → length a.value ≤ 253
    go true p = leb→le (length a.value) 253 (parts (leb (length a.value) 253) _ (plain_lines a.number a.value p c.carried)).0
    go false p = let h : length a.value ≤ 246 = gpp_lines a.number a.value p c.carried in omega arith

-- The count of a carried attribute's item fits 8 bits.
pub count_fits : (ver : Version) (a : Attribute) → Carried a → count ver a.number a.value < 256
count_fits ver a c = omega (arith, count_le ver a.number a.value, value_short a c)

type_low : (n : ℕ) → type_of n < 256
type_low n = go (is_plain n) refl
  where
    go : (b : Bool) → is_plain n ≡ b → cond b n 26 < 256
    go true e = ltb-true n 256 e
    go false e = omega arith

sub_low : (n : ℕ) → n < 512 → sub_of n < 256
sub_low n h = go (is_plain n)
  where
    go : (b : Bool) → cond b 0 (n - 256) < 256
    go true = omega arith
    go false = omega arith

form_octet : (ver : Version) (n : ℕ) (v : List ℕ) → form ver n v < 256
form_octet ver n v = omega (arith, form_range ver n v)

-- An item of a carried attribute is made of octets.
pub item_octets : (ver : Version) (a : Attribute) → Carried a → Octets (item ver a.number a.value)
unfolding item
item_octets ver a c =
    (type_low a.number, (sub_low a.number c.low, (form_octet ver a.number a.value, (count_fits ver a c, stored_octets ver a.number a.value c.octets))))

items_octets : (ver : Version) (l : List Attribute) → All Carried l → Octets (items_of ver l)
unfolding items_of
items_octets ver [] c = tt
items_octets ver (a ∷ l) c = octets_append (item ver a.number a.value) (items_of ver l) (item_octets ver a c.0) (items_octets ver l c.1)

pub kind_octet : (kind : ℕ) → is_kind kind ≡ true → kind < 256
unfolding is_kind
kind_octet kind e = omega (arith, leb→le kind 6 (parts (leb 1 kind) (leb kind 6) (passes (leb 1 kind && leb kind 6) e)).1)

pub flags_octet : (flags : ℕ) → are_flags flags ≡ true → flags < 256
unfolding are_flags
flags_octet flags e = go (in_among flags (0 ∷ 1 ∷ 2 ∷ 4 ∷ 5 ∷ 6 ∷ []) (passes _ e))
  where
    go : Among flags (0 ∷ 1 ∷ 2 ∷ 4 ∷ 5 ∷ 6 ∷ []) → flags < 256
    go (inl p) = omega arith
    go (inr (inl p)) = omega arith
    go (inr (inr (inl p))) = omega arith
    go (inr (inr (inr (inl p)))) = omega arith
    go (inr (inr (inr (inr (inl p))))) = omega arith
    go (inr (inr (inr (inr (inr (inl p)))))) = omega arith
    go (inr (inr (inr (inr (inr (inr p)))))) = absurd p

-- The sheet of a readable area is made of octets.
pub sheet_octets : (ver : Version) (kind flags : ℕ) (area : List ℕ) → Readable kind flags area → Octets (sheet_as ver kind flags area)
unfolding sheet_as sheet_with sheet_head octets_of
sheet_octets ver kind flags area r =
    let c = clear kind flags area r.accepted in
    let w = walked_area area r.octets in
    let l : List Attribute = attributes (walk area) in
    (omega arith, (omega arith, (omega arith, (omega arith, (omega arith, (kind_octet kind c.kind_ok, (flags_octet flags c.flags_ok, octets_append (octets_of 2 (length l)) (items_of ver l) (octets_octets 2 (length l)) (items_octets ver l w.carried))))))))
