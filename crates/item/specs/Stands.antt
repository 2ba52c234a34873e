-- 23, "no readable attribute gives", of an item whose head and stored octets are there: by its form, and for form 2 to 7
-- by the shape of its number. Assumes nothing.
use Rattle.std.specs.Prelude.{ℕ, Bool, false, cond, not, ◌&&◌, List, ◌∷◌, eqb, leb, ltb, length, take}
use Rattle.meaning.specs.Versions.{current}
use Rattle.meaning.specs.Octets.{between, same, number_of}
use Rattle.meaning.specs.Framing.{is_plain, vendor3gpp, carries}
use Rattle.meaning.specs.Shapes.{Shape, number, address, digits, hexadecimal, qos, hex_digit, any_octet, decimal_digit, at_least, exactly}
use Rattle.meaning.specs.Shapes.{blocks, free, shape_of, meets}
use Rattle.meaning.specs.Sheet.{form_of, stored_of, value_of, item, number_in, value_in}
use Rattle.shape.specs.Codes.{code_of, shape_by}

-- some readable attribute gives the item of this head and these stored octets
unfoldable pub stands_for : (type sub form count : ℕ) → List ℕ → Bool
stands_for t s f c st =
    carries (number_in t s f) (value_in current (number_in t s f) f c st)
    && same (item current (number_in t s f) (value_in current (number_in t s f) f c st)) (t ∷ s ∷ f ∷ c ∷ st)

-- "another vendor's type 26", with its id
unfoldable pub other_vendor : List ℕ → Bool
other_vendor v = leb 5 (length v) && not (eqb (number_of (take 4 v)) vendor3gpp)

-- a value stands as it is, in form 0 or 1: an attribute carries it, and it meets no shape that has a form of its own. The number's shape
-- is told by its code; the shapes from code 20 on have such a form
unfoldable pub raw : (number code form : ℕ) → List ℕ → Bool
raw n code f v = eqb (cond (is_plain n) 0 1) f && (not (leb 20 code && meets current (shape_by code) v) && carries n v)

-- a shape is of digits, and takes so many
unfoldable pub takes_digits : Shape → (count : ℕ) → Bool
takes_digits (digits a b) c = between a b c
takes_digits number c = false
takes_digits address c = false
takes_digits hexadecimal c = false
takes_digits qos c = false
takes_digits hex_digit c = false
takes_digits any_octet c = false
takes_digits decimal_digit c = false
takes_digits (at_least n) c = false
takes_digits (exactly n) c = false
takes_digits blocks c = false
takes_digits free c = false

-- a shape has a form of its own, and the octets are what it stores of the value that they stand for
unfoldable pub held : Shape → (count : ℕ) → List ℕ → Bool
held s c st = leb 2 (form_of s) && (meets current s (value_of current s c st) && same (stored_of current s (value_of current s c st)) st)

-- the same of a shape whose form is this one
unfoldable pub shaped : Shape → (form count : ℕ) → List ℕ → Bool
shaped s f c st = eqb (form_of s) f && held s c st

-- some readable attribute of a number gives an item of this form, count and stored octets: a value as it stands, or in its shape
unfoldable pub stands_as : (number form count : ℕ) → List ℕ → Bool
stands_as n f c st = cond (ltb f 2) (raw n (code_of (shape_of n)) f st) (shaped (shape_of n) f c st)
