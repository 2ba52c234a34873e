-- What the status says.
use Rattle.std.specs.Prelude.{◌≡◌, ℕ, List, eqb, cond, replicate}
use Rattle.answering.specs.declared.Status.{Status}
use Rattle.answering.specs.declared.Status.TheVariants.{Answered, Faulty}
use Rattle.lines.specs.Lines.{StartLaid}
use Rattle.printing.specs.Printed.{check_printed}

-- there is no breach where no octet is printed
abbrev pub status_of : ℕ → Status
status_of n = cond (eqb n 0) Answered Faulty

-- the status says this of what is printed
abbrev pub told : List ℕ → ℕ → Status → Type 0
told kept all s =
    (n : ℕ) × (out : List ℕ) × StartLaid (check_printed kept all 6126) (replicate 55134 0) n out × (s ≡ status_of n)
