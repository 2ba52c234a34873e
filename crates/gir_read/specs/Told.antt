-- What the status says.
use Rattle.std.specs.Prelude.{◌≡◌, ℕ, List, eqb, cond, get_or, replicate}
use Rattle.answering.specs.declared.Status.{Status}
use Rattle.answering.specs.declared.Status.TheVariants.{Answered, Faulty}
use Rattle.lines.specs.Lines.{StartLaid}
use Rattle.printing.specs.Printed.{read_printed}

-- what is printed is a sheet where it begins with a `G`
abbrev pub status_of : ℕ → Status
status_of first = cond (eqb first 71) Answered Faulty

-- the status says this of what is printed
abbrev pub told : List ℕ → ℕ → Status → Type 0
told kept all s =
    (n : ℕ) × (out : List ℕ) × StartLaid (read_printed kept all 8161) (replicate 8161 0) n out × (s ≡ status_of (get_or out 0 0))
