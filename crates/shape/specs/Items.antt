-- The book, "The sheet": the item of a carried number whose value is a part of an area, and the octets that it stores.
-- Assumes nothing.
use Rattle.std.specs.Prelude.{ℕ, ◌≡◌, ◌⊎◌, ◌+◌, ◌*◌, ◌%◌, cond, List, [], ◌∷◌, eqb, drop, get_or}
use Rattle.meaning.specs.Versions.{current}
use Rattle.meaning.specs.Octets.{number_of, octets_of, pack, digit_value, values}
use Rattle.meaning.specs.Framing.{is_plain}
use Rattle.meaning.specs.Shapes.{Shape, number, address}
use Rattle.meaning.specs.Sheet.{form, count, stored}
use Rattle.octets.specs.declared.Digits.{Digits}
use Rattle.octets.specs.Parts.{part_of}
use Rattle.octets.specs.DigitStrings.{halves, digits_of, packed_of}
use Rattle.area.specs.declared.Part.{Part}
use Rattle.shape.specs.declared.Value.{Value}
use Rattle.shape.specs.declared.Value.TheVariants as is
use Rattle.shape.specs.declared.Item.{Item}

-- the value of an item of this form: of the octets v, which are the part p of the area and are stored as s
unfoldable pub value_by : (form : ℕ) (v s : List ℕ) → Part → Value
value_by f v s p =
    cond (eqb f 2) (is.Number (number_of v))
    (cond (eqb f 3) (is.Address (number_of v))
    (cond (eqb f 4) is.Digits
    (cond (eqb f 7) (is.Number (number_of s)) (is.Plain p))))

-- the digits of an item of this form, of the octets v: none but in form 4
unfoldable pub digits_by : (form : ℕ) → List ℕ → Digits
digits_by f v = cond (eqb f 4) (digits_of (values v)) (digits_of [])

-- an item that has no digits
unfoldable pub undigited : (number form count : ℕ) → Value → Item
undigited n f c x = record { number = n; form = f; count = c; value = x; digits = digits_of [] }

-- the item of a value that stands as it is, in "form 0 (plain) or 1 (3GPP)"
unfoldable pub raw_item : (number count : ℕ) → Part → Item
raw_item n c p = undigited n (cond (is_plain n) 0 1) c (is.Plain p)

-- the item of a carried number with the octets v, which are the part p of the area
unfoldable pub item_for : (number : ℕ) → List ℕ → Part → Item
item_for n v p =
    record {
      number = n;
      form = form current n v;
      count = count current n v;
      value = value_by (form current n v) v (stored current n v) p;
      digits = digits_by (form current n v) v;
    }

-- the item of a carried number whose value is a part of an area
unfoldable pub item_at : (area : List ℕ) (number : ℕ) → Part → Item
item_at area n p = item_for n (part_of area p.start p.len) p

-- a shape of four octets, by its form: a number, an address
abbrev pub FourOctets : Shape → (form : ℕ) → Type 0
FourOctets s f = ((s ≡ number) × (f ≡ 2)) ⊎ ((s ≡ address) × (f ≡ 3))

-- what an item of this form stores of plain octets: as they stand, or in form 5 as packed text, in form 6 with the release before it
unfoldable pub stored_part : (form : ℕ) → List ℕ → List ℕ
stored_part f v =
    cond (eqb f 5) (pack (halves v))
    (cond (eqb f 6) (((digit_value (get_or v 0 0) * 10 + digit_value (get_or v 1 0)) % 256) ∷ pack (halves (drop 3 v))) v)

-- what an item of this form stores of its value, with its digits
unfoldable pub stored_value : (area : List ℕ) (form : ℕ) → Value → Digits → List ℕ
stored_value area f (is.Number n) d = cond (eqb f 7) ((n % 256) ∷ []) (octets_of 4 n)
stored_value area f (is.Address n) d = octets_of 4 n
stored_value area f is.Digits d = packed_of d
stored_value area f (is.Plain p) d = stored_part f (part_of area p.start p.len)

-- the octets that an item stores, taken from the item and the area that it speaks of
unfoldable pub stored_in : (area : List ℕ) → Item → List ℕ
stored_in area i = stored_value area i.form i.value i.digits
