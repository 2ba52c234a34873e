-- The book, "The sheet": what a sheet's version says. A request that adds a version adds its case here; the older ones stay
-- as they stood. Assumes nothing.
use Rattle.std.specs.Prelude.{ℕ, ◌-◌, Bool, false, cond, ◌&&◌, ◌||◌, leb}
use Rattle.meaning.specs.Octets.{between, is_hex}

-- the versions of a sheet
pub data Version : Type 0 where
  one : Version

-- what a version says: its number; whether small letters are hexadecimal digits too, and their case is kept; whether items may share an
-- attribute, which 128 more in the form octet tells
pub record Terms : Type 0 where
  pub number : ℕ
  pub small_letters : Bool
  pub shared_items : Bool

abbrev pub terms_of : Version → Terms
terms_of one = record { number = 1; small_letters = false; shared_items = false }

-- the version that reading makes
abbrev pub current : Version
current = one

-- "hexadecimal letters are upper case only": a hexadecimal digit, in a version
abbrev pub is_hex_in : Version → ℕ → Bool
is_hex_in ver x = ((terms_of ver).small_letters && between 97 102 x) || is_hex x

-- the form that a form octet names
abbrev pub form_named : Version → (octet : ℕ) → ℕ
form_named ver f = cond ((terms_of ver).shared_items && leb 128 f) (f - 128) f
