-- The lines that the programs print: an entry as eight digits, hexadecimal with capitals; a refusal as the word "refused", its number and
-- its second number in decimal, one space between. A line ends in one line feed. Assumes nothing.
use Rattle.std.specs.Prelude.{◌≡◌, ℕ, zero, suc, ◌+◌, ◌-◌, ◌/◌, ◌%◌, cond, List, [], ◌∷◌, ◌++◌, eqb, leb, length}
use Rattle.meaning.specs.Octets.{octets_of, unpack, text}
use Rattle.octets.specs.Parts.{fits_at, laid_at}
use Rattle.octets.specs.DigitStrings.{padded}
use Rattle.lines.specs.declared.Text.{Text}

-- ---- Numbers

-- a number in decimal, in so many digits at most: up to 9 its digit; else the digits of its tenth, and the last one behind them
unfoldable pub decimal_in : (digits number : ℕ) → List ℕ
decimal_in zero n = []
decimal_in (suc k) n = cond (leb n 9) ((n + 48) ∷ []) (decimal_in k (n / 10) ++ ((n % 10 + 48) ∷ []))

-- a number of 64 bits in decimal: none has more than twenty digits
unfoldable pub decimal : ℕ → List ℕ
decimal n = decimal_in 20 n

-- an entry, a number of 32 bits, "as eight upper-case hexadecimal digits": the halves of its four octets
unfoldable pub entry_digits : ℕ → List ℕ
entry_digits e = text (unpack 8 (octets_of 4 e))

-- ---- Lines

abbrev pub space : ℕ
space = 32

abbrev pub line_feed : ℕ
line_feed = 10

-- "refused", with the space behind it
abbrev pub refused_word : List ℕ
refused_word = 114 ∷ 101 ∷ 102 ∷ 117 ∷ 115 ∷ 101 ∷ 100 ∷ space ∷ []

-- the line of a refusal: "refused" and its two numbers "in decimal, with one space between"
unfoldable pub refusal_line : (number second : ℕ) → List ℕ
refusal_line n s = refused_word ++ (decimal n ++ ((space ∷ []) ++ (decimal s ++ (line_feed ∷ []))))

-- an entry's digits, and an octet behind them: with a line feed it is the entry's line
unfoldable pub entry_with : (behind entry : ℕ) → List ℕ
entry_with b e = entry_digits e ++ (b ∷ [])

-- entries one behind the other, each with the octet behind it
unfoldable pub entries_with : (behind : ℕ) → List ℕ → List ℕ
entries_with b [] = []
entries_with b (e ∷ l) = entry_with b e ++ entries_with b l

-- how many octets s has, if it fits over the start of the buffer d, and 0 if not; and what the buffer holds then
pub record StartLaid (s d : List ℕ) (said : ℕ) (held : List ℕ) : Type 0 where
  pub says : said ≡ cond (fits_at 0 s d) (length s) 0
  pub holds : held ≡ laid_at 0 s d

-- the second number as a program tells it, which kept no more of an area than decides the answer: for 3 the area's
-- length, that is all octets of the input but the kind's and the flags'
unfoldable pub second_told : (number second all : ℕ) → ℕ
second_told n s all = cond (eqb n 3) (all - 2) s

-- ---- A text that is being made

-- octets with zeros behind them, and how many they are
unfoldable pub text_of : List ℕ → Text
text_of l = record { octets = padded 50 0 l; len = length l }

-- a text with octets behind it, if they fit; else the text as it was
unfoldable pub followed : Text → List ℕ → Text
followed t s =
    record {
      octets = laid_at t.len s t.octets;
      len = cond (fits_at t.len s t.octets) (t.len + length s) t.len;
    }
