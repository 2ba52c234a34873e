-- Idle builds that the promises shut out: everything is refused; the list is the same for all; nothing is written; only the first
-- attribute is decoded; the number of entries is made up. A build is what it answers and what it leaves in the lent
-- buffer, for every input. Each is idle on readable areas with room and may do all else right. Assumes nothing.
use mathlib.Core.Path.{◌≡◌, refl, sym, ap, ◌∙◌}
use mathlib.Core.Bool.{cond}
use mathlib.Core.List.{List, [], ◌∷◌, ◌++◌}
use Prim.Native.Nat.{ℕ, ◌+◌, ◌≤◌}
use native.Mathlib.Omega.{arith}
use lib.ListN.{length, replicate, get_or, length-replicate}
use Rattle.meaning.specs.Versions.{current}
use Rattle.meaning.specs.Jobs.{Context, comes}
use Rattle.meaning.specs.Framing.{is_plain, Attribute, walk, attributes}
use Rattle.meaning.specs.Sheet.{type_of, sub_of, item, sheet_head, sheet_of, Readable}
use Rattle.meaning.specs.Breaches.{Breach, Lists}
use Rattle.meaning.specs.Listing.{list_of}
use Rattle.meaning.specs.Answers.{given, over, after, read_answer}
use Rattle.meaning.specs.Seen.{area_a, sheet_a}
use Rattle.meaning.proofs.Placed.{list_lists}
use Rattle.meaning.proofs.Computing.{computing}
use Rattle.std.specs.Prelude.{Ok, Err}
use Rattle.area.specs.declared.Refusal.{Refusal}
use Rattle.desk.specs.Answers.{Reading, Checking, reading_of, Read, Checked}
use Rattle.desk.specs.Calls.{CheckCall}
use Rattle.desk.proofs.Demands.{list_of_breaches}

-- ---- Builds of reading

-- for kind, flags, area and buffer, what is said and what the buffer holds then
abbrev pub ReadBuild : Type 0
ReadBuild = (kind flags : ℕ) (area buffer : List ℕ) → Reading × List ℕ

-- a build keeps the promise for every input
abbrev pub KeepsRead : ReadBuild → Type 0
KeepsRead b =
    (kind flags : ℕ) (area buffer : List ℕ) → Read kind flags area buffer (b kind flags area buffer).0 (b kind flags area buffer).1

-- what a build does with each readable area that has room for its sheet
abbrev pub OnReadable : ((kind flags : ℕ) (area buffer : List ℕ) → Type 0) → Type 0
OnReadable Does =
    (kind flags : ℕ) (area buffer : List ℕ) → Readable kind flags area → length (sheet_of kind flags area) ≤ length buffer
    → Does kind flags area buffer

-- P1: area A in kind 4; a buffer of zeros
p1_readable : Readable 4 0 area_a
unfolding computing
p1_readable = record { octets = omega arith; accepted = refl }

p1_sheet : sheet_of 4 0 area_a ≡ sheet_a
unfolding computing
p1_sheet = refl

abbrev zeros : List ℕ
zeros = replicate 26 0

p1_room : length (sheet_of 4 0 area_a) ≤ 26
p1_room = omega (arith, ap length p1_sheet)

p1 : read_answer 4 0 area_a 26 ≡ given sheet_a
unfolding computing
p1 = refl

p1_held : (b : ReadBuild) → KeepsRead b → (b 4 0 area_a zeros).1 ≡ sheet_a ++ 0 ∷ 0 ∷ []
unfolding after over
p1_held b keeps = (keeps 4 0 area_a zeros).holds ∙ rw p1

-- what is said is a refusal
pub record Refusing (said : Reading) : Type 0 where
  pub what : Refusal
  pub is : said ≡ Err what

-- A build that refuses everything: demand 2 says when an area is read, and P1 is.
pub refuses_everything :
    (b : ReadBuild) → KeepsRead b → OnReadable (λ kind flags area buffer. Refusing (b kind flags area buffer).0) → ⊥
refuses_everything b keeps idle =
    let said : (b 4 0 area_a zeros).0 ≡ Ok 24 = (keeps 4 0 area_a zeros).says ∙ ap reading_of p1 in
    let other = (idle 4 0 area_a zeros p1_readable p1_room).is in
    let z : ◌≡◌ {A = ℕ} 0 1 = cc in
    omega arith

-- One that writes nothing is shut out by demand 2's sheet: P1's stands in the buffer.
pub writes_nothing :
    (b : ReadBuild) → KeepsRead b → OnReadable (λ kind flags area buffer. (b kind flags area buffer).1 ≡ buffer) → ⊥
writes_nothing b keeps idle =
    let held = sym (p1_held b keeps) ∙ idle 4 0 area_a zeros p1_readable p1_room in
    let first : ◌≡◌ {A = ℕ} 71 0 = ap (λ (l : List ℕ). get_or l 0 0) held in
    omega arith

-- the items of attributes as they stand, in form 0 or 1
abbrev raw_items : List Attribute → List ℕ
raw_items [] = []
raw_items (a ∷ l) =
    (type_of a.number ∷ sub_of a.number ∷ cond (is_plain a.number) 0 1 ∷ length a.value ∷ a.value) ++ raw_items l

-- a sheet in which the first attribute alone is decoded
abbrev first_decoded : (kind flags : ℕ) → List Attribute → List ℕ
first_decoded kind flags [] = sheet_head current kind flags 0
first_decoded kind flags (a ∷ l) = sheet_head current kind flags (length (a ∷ l)) ++ item current a.number a.value ++ raw_items l

-- the same of an area
abbrev pub first_only : (kind flags : ℕ) → List ℕ → List ℕ
first_only kind flags area = first_decoded kind flags (attributes (walk area))

-- it stands in the buffer, where there is room for it
abbrev pub FirstOnly : (kind flags : ℕ) (area buffer held : List ℕ) → Type 0
FirstOnly kind flags area buffer held =
    length (first_only kind flags area) ≤ length buffer → held ≡ over (first_only kind flags area) buffer

p1_first : over (first_only 4 0 area_a) zeros ≡ first_only 4 0 area_a
unfolding computing over
p1_first = refl

p1_form : get_or (first_only 4 0 area_a) 19 0 ≡ 1
unfolding computing
p1_form = refl

p1_fits : length (first_only 4 0 area_a) ≤ 26
unfolding computing
p1_fits = omega arith

-- A build that stores all but the first attribute as they stand: a form is no free choice, and P1's second item has form 4.
pub decodes_the_first :
    (b : ReadBuild) → KeepsRead b
    → OnReadable (λ kind flags area buffer. FirstOnly kind flags area buffer (b kind flags area buffer).1) → ⊥
decodes_the_first b keeps idle =
    let raw : (b 4 0 area_a zeros).1 ≡ first_only 4 0 area_a = idle 4 0 area_a zeros p1_readable p1_room p1_fits ∙ p1_first in
    let form : ◌≡◌ {A = ℕ} 4 1 = ap (λ (l : List ℕ). get_or l 19 0) (sym (p1_held b keeps) ∙ raw) ∙ p1_form in
    omega arith

-- ---- Builds of checking

abbrev pub CheckBuild : Type 0
CheckBuild = (c : Context) (area buffer : List ℕ) → Checking × List ℕ

abbrev pub KeepsCheck : CheckBuild → Type 0
KeepsCheck b = (c : Context) (area buffer : List ℕ) → Checked c area buffer (b c area buffer).0 (b c area buffer).1

-- a list of exactly the breaches of a readable area, and a buffer with room for it
pub record Listable (c : Context) (area buffer l : List ℕ) : Type 0 where
  pub readable : Readable c.kind c.flags area
  pub lists : Lists l (Breach c (length area) (attributes (walk area)))
  pub room : length l ≤ length buffer

-- A build that makes the number of entries up: it is the length of any list of exactly the breaches.
pub number_invented :
    (b : CheckBuild) → KeepsCheck b → (c : Context) (area buffer l : List ℕ) → Listable c area buffer l
    → (n : ℕ) → (b c area buffer).0 ≡ Ok n → n ≡ length l
number_invented b keeps c area buffer l a n said =
    let call : CheckCall =
    record {
      comes = c;
      area = area;
      octets = a.readable.octets;
      buffer = buffer;
      said = (b c area buffer).0;
      held = (b c area buffer).1;
      promised = keeps c area buffer;
    } in
    let listed = list_of_breaches call a.readable l a.lists a.room in
    let e : Ok n ≡ Ok (length l) = sym said ∙ listed.says in
    cc

-- P4 and P5: the empty area in kinds 1 and 4 has three entries and two
p4_p5 : (length (list_of (comes 1 0) []) ≡ 3) × (length (list_of (comes 4 0) []) ≡ 2)
unfolding computing
p4_p5 = (refl, refl)

module _ (buffer : List ℕ) (room : 3 ≤ length buffer) where
  p4 : Listable (comes 1 0) [] buffer (list_of (comes 1 0) [])
  unfolding computing
  p4 =
      record {
        readable = record { octets = tt; accepted = refl };
        lists = list_lists (comes 1 0) [] tt;
        room = omega (arith, p4_p5.0, room);
      }

  p5 : Listable (comes 4 0) [] buffer (list_of (comes 4 0) [])
  unfolding computing
  p5 =
      record {
        readable = record { octets = tt; accepted = refl };
        lists = list_lists (comes 4 0) [] tt;
        room = omega (arith, p4_p5.1, room);
      }

-- what a build does with each readable area that has room for its list
abbrev pub OnListable : ((c : Context) (area buffer : List ℕ) → Type 0) → Type 0
OnListable Does = (c : Context) (area buffer l : List ℕ) → Listable c area buffer l → Does c area buffer

-- A build with one list for all, given wherever that has room too: P4 and P5 have different ones.
pub list_fixed :
    (b : CheckBuild) → KeepsCheck b → (l : List ℕ)
    → OnListable (λ c area buffer. length l ≤ length buffer → (b c area buffer).0 ≡ Ok (length l)) → ⊥
list_fixed b keeps l fixed =
    let buffer : List ℕ = replicate (3 + length l) 0 in
    let long : length buffer ≡ 3 + length l = length-replicate {A = ℕ} (3 + length l) 0 in
    let three : 3 ≤ length buffer = omega (arith, long) in
    let fits : length l ≤ length buffer = omega (arith, long) in
    let first =
    number_invented b keeps (comes 1 0) [] buffer _ (p4 buffer three) (length l) (fixed (comes 1 0) [] buffer _ (p4 buffer three) fits) in
    let second =
    number_invented b keeps (comes 4 0) [] buffer _ (p5 buffer three) (length l) (fixed (comes 4 0) [] buffer _ (p5 buffer three) fits) in
    omega (arith, first, second, p4_p5.0, p4_p5.1)
