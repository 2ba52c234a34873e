-- The book, "The sheet": its head, its items and their forms; what it takes for a sheet to be written, and the judgement that
-- decides it with the refusals 20 to 24. Assumes nothing.
use Rattle.std.specs.Prelude.{◌≡◌, ℕ, zero, suc, ◌+◌, ◌*◌, ◌-◌, ◌/◌, ◌%◌, Bool, cond, not, ◌&&◌, List, [], ◌∷◌, ◌++◌, eqb, leb, ltb, length, take, drop, get_or}
use Rattle.meaning.specs.Octets.{Octets, same, number_of, octets_of, pack, unpack, packed_length, digit_value, values, text}
use Rattle.meaning.specs.Versions.{Version, one, terms_of, current, form_named}
use Rattle.meaning.specs.Framing.{gpp, is_plain, Attribute, area_of, carries, Walk, end, broken, next, walk, attributes}
use Rattle.meaning.specs.Refusals.{Refusal, none, area_refusal, sheet_refusal}
use Rattle.meaning.specs.Shapes.{Shape, number, address, digits, hexadecimal, qos, hex_digit, any_octet, decimal_digit, at_least, exactly}
use Rattle.meaning.specs.Shapes.{blocks, free, shape_of, meets}

-- "type", of a carried number
abbrev pub type_of : ℕ → ℕ
type_of n = cond (is_plain n) n 26

-- "sub-attribute number", 0 for a plain one
abbrev pub sub_of : ℕ → ℕ
sub_of n = cond (is_plain n) 0 (n - 256)

-- The table of forms: the form that a shape is stored in, 0 where it has none of its own ("Form 0 with a length rule", no shape)
unfoldable pub form_of : Shape → ℕ
form_of number = 2
form_of address = 3
form_of (digits a b) = 4
form_of hexadecimal = 5
form_of qos = 6
form_of hex_digit = 7
form_of any_octet = 7
form_of decimal_digit = 7
form_of (at_least n) = 0
form_of (exactly n) = 0
form_of blocks = 0
form_of free = 0

-- The table of forms: the octets that a value which meets the shape is stored in, in a version
unfoldable pub stored_of : Version → Shape → List ℕ → List ℕ
stored_of ver number v = v
stored_of ver address v = v
stored_of ver (digits a b) v = pack (values v)
stored_of ver hexadecimal v = pack (values v)
stored_of ver qos v = (digit_value (get_or v 0 0) * 10 + digit_value (get_or v 1 0)) ∷ pack (values (drop 3 v))
stored_of ver hex_digit v = values v
stored_of ver any_octet v = v
stored_of ver decimal_digit v = values v
stored_of ver (at_least n) v = v
stored_of ver (exactly n) v = v
stored_of ver blocks v = v
stored_of ver free v = v

-- The way back: the value that a shape's stored octets, announced by a count, stand for
unfoldable pub value_of : Version → Shape → (count : ℕ) → List ℕ → List ℕ
value_of ver number c s = s
value_of ver address c s = s
value_of ver (digits a b) c s = text (unpack c s)
value_of ver hexadecimal c s = text (unpack (2 * length s) s)
value_of ver qos c s = text ((get_or s 0 0 / 10) ∷ (get_or s 0 0 % 10) ∷ []) ++ 45 ∷ text (unpack (2 * (length s - 1)) (drop 1 s))
value_of ver hex_digit c s = text s
value_of ver any_octet c s = s
value_of ver decimal_digit c s = text s
value_of ver (at_least n) c s = s
value_of ver (exactly n) c s = s
value_of ver blocks c s = s
value_of ver free c s = s

-- "used exactly when the value meets": a form from 2 to 7
unfoldable pub decodes : Version → (number : ℕ) → List ℕ → Bool
decodes ver n v = leb 2 (form_of (shape_of n)) && meets ver (shape_of n) v

-- the form of a value: its number's, "otherwise form 0" or 1
unfoldable pub form : Version → (number : ℕ) → List ℕ → ℕ
form ver n v = cond (decodes ver n v) (form_of (shape_of n)) (cond (is_plain n) 0 1)

-- "stored octets": those of the form, or the value as it stands
unfoldable pub stored : Version → (number : ℕ) → List ℕ → List ℕ
stored ver n v = cond (decodes ver n v) (stored_of ver (shape_of n) v) v

-- the count: what is stored, and in form 4 "count is the digits"
unfoldable pub count : Version → (number : ℕ) → List ℕ → ℕ
count ver n v = cond (eqb (form ver n v) 4) (length v) (length (stored ver n v))

-- "type, sub-attribute number, form, count", and what is stored
unfoldable pub item : Version → (number : ℕ) → List ℕ → List ℕ
item ver n v = type_of n ∷ sub_of n ∷ form ver n v ∷ count ver n v ∷ stored ver n v

-- "one item per attribute"
unfoldable pub items_of : Version → List Attribute → List ℕ
items_of ver [] = []
items_of ver (a ∷ l) = item ver a.number a.value ++ items_of ver l

-- "mark GIR (47 49 52)"
abbrev pub mark : List ℕ
mark = 0x47 ∷ 0x49 ∷ 0x52 ∷ []

-- "Nine octets": mark, version, kind, flags, number of items
unfoldable pub sheet_head : Version → (kind flags count : ℕ) → List ℕ
sheet_head ver kind flags n = mark ++ octets_of 2 (terms_of ver).number ++ kind ∷ flags ∷ octets_of 2 n

-- the head, then the items
unfoldable pub sheet_with : Version → (kind flags : ℕ) → List Attribute → List ℕ
sheet_with ver kind flags l = sheet_head ver kind flags (length l) ++ items_of ver l

-- the sheet of an area, in a version
unfoldable pub sheet_as : Version → (kind flags : ℕ) → List ℕ → List ℕ
sheet_as ver kind flags area = sheet_with ver kind flags (attributes (walk area))

-- the sheet that reading makes
abbrev pub sheet_of : (kind flags : ℕ) → List ℕ → List ℕ
sheet_of = sheet_as current

-- ---- Which sheets are written

-- "some readable area": nothing of 1 to 8 applies to the area with kind and flags
pub record Readable (kind flags : ℕ) (area : List ℕ) : Type 0 where
  pub octets : Octets area
  pub accepted : area_refusal kind flags area ≡ none

-- Demand 2: "some readable area has it", in a version
pub record Writable (ver : Version) (sheet : List ℕ) : Type 0 where
  pub kind : ℕ
  pub flags : ℕ
  pub area : List ℕ
  pub readable : Readable kind flags area
  pub has : sheet ≡ sheet_as ver kind flags area

-- ---- The judgement of a sheet

-- the number that an item's head names; form 0 of type 26 is another vendor's
abbrev pub number_in : (type sub form : ℕ) → ℕ
number_in t s f = cond (eqb t 26 && not (eqb f 0)) (gpp s) t

-- the only value that an item of this head can stand for
abbrev pub value_in : Version → (number form count : ℕ) → List ℕ → List ℕ
value_in ver n f c s = cond (leb f 1) s (value_of ver (shape_of n) c s)

-- the octets that an item announces: its count, also in an unknown form; of digits "half the count, rounded up"
abbrev pub stored_length : Version → (form count : ℕ) → ℕ
stored_length ver f c = cond (eqb (form_named ver f) 4) (packed_length c) c

-- What stands at the front of some octets of a sheet: an item, with the number and value it stands for and all its octets,
-- or a refusal.
pub data Entered : Type 0 where
  holds : (number : ℕ) (value : List ℕ) (size : ℕ) → Entered
  refused : (number : ℕ) → Entered

-- 23: "no readable attribute gives": the item of the number and value it stands for is not this one
unfoldable pub judged_item : Version → (number : ℕ) (value item : List ℕ) → Entered
judged_item ver n v it = cond (carries n v && same (item ver n v) it) (holds n v (length it)) (refused 23)

-- an item whose head and stored octets are there
unfoldable pub whole_item : Version → List ℕ → Entered
whole_item ver l =
    let t = get_or l 0 0 in
    let f = get_or l 2 0 in
    let c = get_or l 3 0 in
    let n = number_in t (get_or l 1 0) f in
    let size = 4 + stored_length ver f c in
    judged_item ver n (value_in ver n f c (drop 4 (take size l))) (take size l)

-- 22: "head or stored octets pass", before 23
unfoldable pub entered : Version → List ℕ → Entered
entered ver l =
    cond (ltb (length l) 4) (refused 22)
    (cond (ltb (length l) (4 + stored_length ver (get_or l 2 0) (get_or l 3 0))) (refused 22) (whole_item ver l))

-- on from place p with what stands there; rest goes on after so many octets
abbrev pub on_item : (p : ℕ) → (ℕ → Walk) → Entered → Walk
on_item p rest (holds n v size) = next (record { place = p; number = n; value = v }) (rest size)
on_item p rest (refused k) = broken k p

-- the walk over so many items from place p on; 22: "octets remain", behind the last
unfoldable pub items : Version → (count p : ℕ) → List ℕ → Walk
items ver zero p [] = end
items ver zero p (x ∷ l) = broken 22 p
items ver (suc c) p l = on_item p (λ size. items ver c (p + size) (drop size l)) (entered ver l)

-- the version by which a sheet is judged: there is one
abbrev pub version_in : List ℕ → Version
version_in sheet = one

-- "kind" in a sheet
abbrev pub kind_in : List ℕ → ℕ
kind_in sheet = get_or sheet 5 0

-- "flags" in a sheet
abbrev pub flags_in : List ℕ → ℕ
flags_in sheet = get_or sheet 6 0

-- "number of items as 16 bits", then the items from place 9 on
unfoldable pub items_in : List ℕ → Walk
items_in sheet = items (version_in sheet) (number_of (take 2 (drop 7 sheet))) 9 (drop 9 sheet)

-- the area that a sheet's items give
unfoldable pub area_in : List ℕ → List ℕ
area_in sheet = area_of (attributes (items_in sheet))

-- 20: too short, or "wrong mark or version"
unfoldable pub marked : List ℕ → Bool
marked sheet = leb 9 (length sheet) && same (take 5 sheet) (mark ++ octets_of 2 (terms_of (version_in sheet)).number)

-- "For write: 20, 21, items ..": the first of 20 to 24 that applies
unfoldable pub judged : List ℕ → Refusal
judged sheet =
    sheet_refusal (marked sheet) (kind_in sheet) (flags_in sheet) (items_in sheet) (length (area_in sheet))
