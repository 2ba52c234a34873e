-- What comes of filings, of one or of many, and the digit that tells it. Assumes nothing.
use Rattle.std.specs.Prelude.{ℕ, Bool, true, false, ◌&&◌, ◌||◌, List, [], ◌∷◌}
use Rattle.filing.specs.declared.Outcome.{Outcome}
use Rattle.filing.specs.declared.Outcome.TheVariants.{Filed, Refused, Trouble}

-- what comes of all, where some are refused
abbrev pub refused_or : Outcome → Outcome
refused_or Filed = Refused
refused_or Refused = Refused
refused_or Trouble = Trouble

-- what comes of two: trouble where one is trouble, refused where one is refused, and filed only where both are
abbrev pub worse_of : Outcome → Outcome → Outcome
worse_of Filed o = o
worse_of Refused o = refused_or o
worse_of Trouble o = Trouble

-- what comes of many, one after the other
abbrev pub all_of : Outcome → List Outcome → Outcome
all_of o [] = o
all_of o (p ∷ l) = all_of (worse_of o p) l

-- the digit: 0, 1 and 2 as text are 48, 49 and 50
abbrev pub digit_of : Outcome → ℕ
digit_of Filed = 48
digit_of Refused = 49
digit_of Trouble = 50

-- all is filed
abbrev pub filed : Outcome → Bool
filed Filed = true
filed Refused = false
filed Trouble = false

-- there is trouble
abbrev pub trouble : Outcome → Bool
trouble Filed = false
trouble Refused = false
trouble Trouble = true

-- each of many is filed
abbrev pub all_filed : List Outcome → Bool
all_filed [] = true
all_filed (o ∷ l) = filed o && all_filed l

-- there is trouble with one of many
abbrev pub some_trouble : List Outcome → Bool
some_trouble [] = false
some_trouble (o ∷ l) = trouble o || some_trouble l
