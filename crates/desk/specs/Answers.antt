-- What the desk's answers stand for, in the numbers and values of the book. Assumes nothing.
use Rattle.std.specs.Prelude.{ℕ, List, length, Result, Ok, Err}
use Rattle.meaning.specs.Jobs.{Context}
use Rattle.meaning.specs.Answers as meant
use Rattle.area.specs.declared.Refusal.{Refusal}
use Rattle.writing.specs.declared.Written.{Written}
use Rattle.desk.specs.declared.Answer.{Answer}

-- ---- What is answered

-- the octets of a sheet, the entries of a list, or what is said of a written sheet; or a refusal
abbrev pub Reading : Type 0
Reading = Result ℕ Refusal

abbrev pub Checking : Type 0
Checking = Result ℕ Refusal

abbrev pub Writing : Type 0
Writing = Result Written Refusal

-- a sheet by its length, a refusal by its number and second number
abbrev pub reading_of : meant.Answer (List ℕ) → Reading
reading_of (meant.given s) = Ok (length s)
reading_of (meant.refused n k) = Err (record { number = n; second = k })

-- a list by the number of its entries
abbrev pub checking_of : meant.Answer (List ℕ) → Checking
checking_of (meant.given l) = Ok (length l)
checking_of (meant.refused n k) = Err (record { number = n; second = k })

-- an area by its length, with kind and flags
abbrev pub writing_of : meant.Answer meant.Written → Writing
writing_of (meant.given w) = Ok (record { length = length w.area; kind = w.kind; flags = w.flags })
writing_of (meant.refused n k) = Err (record { number = n; second = k })

-- what each job answers for its input, and what the lent buffer holds then
abbrev pub Read : (kind flags : ℕ) (area buffer : List ℕ) (said : Reading) (held : List ℕ) → Type 0
Read = meant.Reads reading_of

abbrev pub Checked : Context → (area buffer : List ℕ) (said : Checking) (held : List ℕ) → Type 0
Checked = meant.Checks checking_of

abbrev pub Wrote : (sheet buffer : List ℕ) (said : Writing) (held : List ℕ) → Type 0
Wrote = meant.Writes writing_of

-- ---- The same for callers in C and Rust

-- the answer of a job that was done
abbrev pub done_of : (octets kind flags : ℕ) → Answer
done_of n k f = record { refused = 0; number = 0; second = 0; length = n; kind = k; flags = f }

-- the answer of a job that was refused
abbrev pub refused_of : Refusal → Answer
refused_of r = record { refused = 1; number = r.number; second = r.second; length = 0; kind = 0; flags = 0 }

-- each job's cases as an answer
abbrev pub reading_out : Reading → Answer
reading_out (Ok n) = done_of n 0 0
reading_out (Err r) = refused_of r

abbrev pub checking_out : Checking → Answer
checking_out (Ok n) = done_of n 0 0
checking_out (Err r) = refused_of r

abbrev pub writing_out : Writing → Answer
writing_out (Ok w) = done_of w.length w.kind w.flags
writing_out (Err r) = refused_of r

-- what the exports answer: the jobs' cases, by the definitions above
abbrev pub ReadOut : (kind flags : ℕ) (area buffer : List ℕ) (said : Answer) (held : List ℕ) → Type 0
ReadOut = meant.Reads (λ a. reading_out (reading_of a))

abbrev pub CheckedOut : Context → (area buffer : List ℕ) (said : Answer) (held : List ℕ) → Type 0
CheckedOut = meant.Checks (λ a. checking_out (checking_of a))

abbrev pub WroteOut : (sheet buffer : List ℕ) (said : Answer) (held : List ℕ) → Type 0
WroteOut = meant.Writes (λ a. writing_out (writing_of a))
