-- The attribute that an item gives, as the writers lay it: its head and its value, by the item's number, form, count and stored
-- octets. Assumes nothing.
use Rattle.std.specs.Prelude.{◌≡◌, ℕ, ◌+◌, ◌*◌, ◌-◌, ◌/◌, ◌%◌, Bool, true, cond, List, [], ◌∷◌, ◌++◌, eqb, length, drop, get_or, set, Option, None, Some}
use Rattle.meaning.specs.Octets.{digit_text, text, unpack, octets_of}
use Rattle.meaning.specs.Framing.{is_plain, attribute_octets, vendor3gpp}
use Rattle.meaning.specs.Shapes.{shape_of}
use Rattle.octets.specs.Parts.{Begun}
use Rattle.octets.specs.DigitStrings.{packed_digits, decimals}
use Rattle.shape.specs.Codes.{code_of}
use Rattle.item.specs.Stands.{stands_as}

-- room for one attribute wherever it begins: a head of 8 octets and a value of at most 255
abbrev pub span : ℕ
span = 263

-- what is laid of an attribute before its value, by the number alone: its head but for the lengths, 0 where they are to stand
unfoldable pub attribute_front : (number : ℕ) → List ℕ
attribute_front n = cond (is_plain n) (n ∷ []) (26 ∷ 0 ∷ octets_of 4 vendor3gpp ++ (n - 256) ∷ 0 ∷ [])

-- the buffer d with the lengths in the head of h octets that stands at a place, before a value of k octets
unfoldable pub lengths_at : (at h k : ℕ) (d : List ℕ) → List ℕ
lengths_at at h k d = set (set d (at + h - 1) (k + 2)) (at + 1) (k + h)

-- "text "98-" and 6 hexadecimal digits .. or "99-" and 22": the text of a QoS profile
unfoldable pub profile_text : List ℕ → List ℕ
profile_text st =
    digit_text (get_or st 0 0 / 10 % 16) ∷ digit_text (get_or st 0 0 % 10 % 16) ∷ 45 ∷ text (unpack (2 * (length st - 1)) (drop 1 st))

-- the value that an item stands for, by its form; in form 7 the code of the number's shape tells a digit from any octet
unfoldable pub value_as : (number form count : ℕ) → List ℕ → List ℕ
value_as n f c st =
    cond (eqb f 4) (text (unpack c st))
    (cond (eqb f 5) (text (unpack (2 * length st) st))
    (cond (eqb f 6) (profile_text st)
    (cond (eqb f 7) (cond (eqb (code_of (shape_of n)) 71) (get_or st 0 0) (digit_text (get_or st 0 0 % 16)) ∷ []) st)))

-- what the writer of packed digits at a place says, and that they stand there then
pub record Digited (at count : ℕ) (st d : List ℕ) (said : Bool) (out : List ℕ) : Type 0 where
  pub says : said ≡ packed_digits count st
  pub is : said ≡ true → Begun at (decimals (unpack count st)) d out

-- what a writer of octets at a place says, how many they are where they stand for an item, and that they are there then
pub record Laying (at : ℕ) (stands : Bool) (value d : List ℕ) (said : Option ℕ) (out : List ℕ) : Type 0 where
  pub says : said ≡ cond stands (Some (length value)) None
  pub is : stands ≡ true → Begun at value d out

-- the same of an item's attribute
abbrev pub Attributed : (at number form count : ℕ) (stored buffer : List ℕ) (said : Option ℕ) (held : List ℕ) → Type 0
Attributed at n f c st = Laying at (stands_as n f c st) (attribute_octets n (value_as n f c st))
