-- What the status says.
use Rattle.std.specs.Prelude.{◌≡◌, ℕ, List, eqb, leb, cond, get_or, replicate}
use Rattle.answering.specs.declared.Status.{Status}
use Rattle.answering.specs.declared.Status.TheVariants.{Answered, Faulty, Trouble}
use Rattle.lines.specs.Lines.{StartLaid}
use Rattle.printing.specs.Printed.{write_printed}

-- what is printed is an area where it begins with its kind, 1 to 6; where it has no octets the sheet is not judged
abbrev pub status_of : (n first : ℕ) → Status
status_of n first = cond (eqb n 0) Trouble (cond (leb first 6) Answered Faulty)

-- the status says this of what is printed
abbrev pub told : List ℕ → ℕ → Status → Type 0
told kept all s =
    (n : ℕ) × (out : List ℕ) × StartLaid (write_printed kept all 4076) (replicate 4078 0) n out × (s ≡ status_of n (get_or out 0 0))
