-- What the answers of this crate stand for, in the numbers and values of the book. Assumes nothing.
use Rattle.std.specs.Prelude.{ℕ, List, length, Result, Ok, Err}
use Rattle.meaning.specs.Jobs.{Context}
use Rattle.meaning.specs.Answers as meant
use Rattle.area.specs.declared.Refusal.{Refusal}

-- the number of a list's entries, or a refusal
abbrev pub Checking : Type 0
Checking = Result ℕ Refusal

-- a list by the number of its entries, a refusal by its number and second number
abbrev pub checking_of : meant.Answer (List ℕ) → Checking
checking_of (meant.given l) = Ok (length l)
checking_of (meant.refused n k) = Err (record { number = n; second = k })

-- what checking promises of its answer and of the lent buffer
abbrev pub Checked : Context → (area buffer : List ℕ) (said : Checking) (held : List ℕ) → Type 0
Checked = meant.Checks checking_of
