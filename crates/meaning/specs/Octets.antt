-- What the book takes for granted: octets, numbers with the high octet first, digits two to an octet, ASCII text.
-- Octets are natural numbers below 256; an area, a value and a sheet are lists of them. Assumes nothing.
use Rattle.std.specs.Prelude.{ℕ, zero, suc, ◌+◌, ◌*◌, ◌-◌, ◌/◌, ◌%◌, ◌^◌, ◌<◌, Bool, true, false, cond, ◌&&◌, ◌||◌, List, [], ◌∷◌, map, eqb, leb, length}

-- n is one of a list
abbrev pub is_in : ℕ → List ℕ → Bool
is_in n [] = false
is_in n (x ∷ l) = eqb n x || is_in n l

-- n is from a to b, both included
abbrev pub between : ℕ → ℕ → ℕ → Bool
between a b n = leb a n && leb n b

-- a test passes at each of a list
abbrev pub all : (ℕ → Bool) → List ℕ → Bool
all p [] = true
all p (x ∷ l) = p x && all p l

-- two lists are the same
abbrev pub same : List ℕ → List ℕ → Bool
same [] [] = true
same [] (y ∷ m) = false
same (x ∷ l) [] = false
same (x ∷ l) (y ∷ m) = eqb x y && same l m

-- each is an octet
abbrev pub Octets : List ℕ → Type 0
Octets [] = Unit {0}
Octets (x ∷ l) = (x < 256) × Octets l

-- "All numbers high octet first": the number that octets stand for
unfoldable pub number_of : List ℕ → ℕ
number_of [] = 0
number_of (x ∷ l) = x * 256 ^ length l + number_of l

-- "All numbers high octet first": a number in so many octets
unfoldable pub octets_of : (width number : ℕ) → List ℕ
octets_of zero n = []
octets_of (suc w) n = (n / 256 ^ w % 256) ∷ octets_of w n

-- "two to an octet", an odd last one with 15 beside it
unfoldable pub pack : List ℕ → List ℕ
pack [] = []
pack (a ∷ []) = (a * 16 + 15) ∷ []
pack (a ∷ b ∷ l) = (a * 16 + b) ∷ pack l

-- "two to an octet", the way back: so many halves out of packed octets
unfoldable pub unpack : (count : ℕ) → List ℕ → List ℕ
unpack zero s = []
unpack (suc n) [] = []
unpack (suc zero) (x ∷ s) = (x / 16) ∷ []
unpack (suc (suc n)) (x ∷ s) = (x / 16) ∷ (x % 16) ∷ unpack n s

-- the octets that so many halves are packed in: "half the count, rounded up"
abbrev pub packed_length : ℕ → ℕ
packed_length n = (n + 1) / 2

-- "Text is ASCII": a decimal digit
abbrev pub is_digit : ℕ → Bool
is_digit x = between 48 57 x

-- "hexadecimal letters are upper case only": a hexadecimal digit
abbrev pub is_hex : ℕ → Bool
is_hex x = is_digit x || between 65 70 x

-- "stored 0 to 15": what a digit stands for
abbrev pub digit_value : ℕ → ℕ
digit_value x = cond (leb x 57) (x - 48) (x - 55)

-- the digit that stands for a number below 16
abbrev pub digit_text : ℕ → ℕ
digit_text n = cond (leb n 9) (n + 48) (n + 55)

-- "hexadecimal text turned into octets": a text of digits, as numbers
unfoldable pub values : List ℕ → List ℕ
values = map digit_value

-- numbers below 16, as a text of digits
unfoldable pub text : List ℕ → List ℕ
text = map digit_text
