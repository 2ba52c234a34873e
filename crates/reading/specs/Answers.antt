-- What the answers of this crate stand for, in the numbers and values of the book. Assumes nothing.
use Rattle.std.specs.Prelude.{ℕ, List, length, Result, Ok, Err}
use Rattle.meaning.specs.Answers as meant
use Rattle.area.specs.declared.Refusal.{Refusal}

-- the octets of a sheet, or a refusal
abbrev pub Reading : Type 0
Reading = Result ℕ Refusal

-- a sheet by its length, a refusal by its number and second number
abbrev pub reading_of : meant.Answer (List ℕ) → Reading
reading_of (meant.given s) = Ok (length s)
reading_of (meant.refused n k) = Err (record { number = n; second = k })

-- what reading answers, and what the lent buffer holds then
abbrev pub Read : (kind flags : ℕ) (area buffer : List ℕ) (said : Reading) (held : List ℕ) → Type 0
Read = meant.Reads reading_of
