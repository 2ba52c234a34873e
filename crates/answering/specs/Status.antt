-- What a status is told by, and what a run may tell.
use Rattle.std.specs.Prelude.{◌≡◌, ◌≤◌, ◌⊎◌, ℕ, List, length}
use Rattle.answering.specs.declared.Status.{Status}
use Rattle.answering.specs.declared.Status.TheVariants.{Answered, Faulty, Trouble}

-- the number of a status
abbrev pub number_of : Status → ℕ
number_of Answered = 0
number_of Faulty = 1
number_of Trouble = 2

-- what a run that has so much room tells: trouble, or what its program tells of some input, by what is kept of it and all its octets
abbrev pub IsTold : (List ℕ → ℕ → Status → Type 0) → ℕ → Status → Type 0
IsTold tells room s = (s ≡ Trouble) ⊎ ((kept : List ℕ) × (all : ℕ) × (length kept ≤ room) × (length kept ≤ all) × tells kept all s)
