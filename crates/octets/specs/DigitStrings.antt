-- A digit string, "fifteen digits together with their count" at most: read from a text, and packed two to an octet.
-- Assumes nothing.
use Rattle.std.specs.Prelude.{ℕ, zero, suc, ◌+◌, ◌%◌, min, Bool, cond, ◌&&◌, List, [], ◌∷◌, map, eqb, leb, length, take, replicate}
use Rattle.std.specs.Int.Bits.{bit_xor}
use Rattle.meaning.specs.Octets.{between, all, same, number_of, is_digit, digit_value, values, text, pack, unpack, packed_length}
use Rattle.meaning.specs.Answers.{over}
use Rattle.octets.specs.declared.Digits.{Digits}

-- what the octets of a text stand for as digits, each taken modulo 16
unfoldable pub halves : List ℕ → List ℕ
halves = map (λ x. digit_value x % 16)

-- octets with one and the same behind them, to a width
unfoldable pub padded : (width fill : ℕ) → List ℕ → List ℕ
padded w x l = over l (replicate w x)

-- so many digits, by their values, with 15s behind them
unfoldable pub digits_of : List ℕ → Digits
digits_of l = record { octets = padded 15 15 l; len = length l }

-- the digits of a text of 1 to 15 decimal digits; none of any other
unfoldable pub got_of : List ℕ → Digits
got_of l = cond (between 1 15 (length l) && all is_digit l) (digits_of (values l)) (digits_of [])

-- the digits of a text of at most fifteen decimal digits, two to an octet with 15s behind them, as the number that the eight octets
-- stand for; 0 of any other text
unfoldable pub gathered_of : List ℕ → ℕ
gathered_of l = cond (leb (length l) 15 && all is_digit l) (number_of (pack (padded 15 15 (values l)))) 0

-- octets, each with the two bits turned that tell a decimal digit's text from its value
unfoldable pub turned_of : List ℕ → List ℕ
turned_of = map (λ x. bit_xor x 48)

-- each is below 10
abbrev pub below_ten : List ℕ → Bool
below_ten = all (λ x. leb x 9)

-- the first n digits that octets hold, each taken modulo 16; zeros where they hold fewer
unfoldable pub held_of : (n : ℕ) → List ℕ → List ℕ
held_of zero l = []
held_of (suc n) [] = 0 ∷ held_of n []
held_of (suc n) (x ∷ l) = (x % 16) ∷ held_of n l

-- the fifteen octets of digits, each modulo 16, two to an octet: eight octets, the last low half of which is 15
unfoldable pub eight_of : Digits → List ℕ
eight_of d = pack (held_of 15 d.octets)

-- digits two to an octet; fifteen at most, whatever the count says
unfoldable pub packed_of : Digits → List ℕ
packed_of d = take (packed_length (min d.len 15)) (eight_of d)

-- the way back: octets are so many decimal digits, two to an octet, and nothing else
unfoldable pub packed_digits : (count : ℕ) → List ℕ → Bool
packed_digits c s = eqb (length s) (packed_length c) && (all is_digit (text (unpack c s)) && same (pack (unpack c s)) s)

-- numbers below 10, as a text of decimal digits
unfoldable pub decimals : List ℕ → List ℕ
decimals = map (λ h. h + 48)
