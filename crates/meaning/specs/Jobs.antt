-- The book, "Kinds and flags": the kinds of message and the flags. Assumes nothing.
use Rattle.std.specs.Prelude.{ℕ, ◌/◌, ◌%◌, Bool, [], ◌∷◌, eqb}
use Rattle.meaning.specs.Octets.{is_in, between}

-- "Kinds": Access-Request, then accounting START, STOP, ON, OFF and Interim-Update
unfoldable pub is_kind : ℕ → Bool
is_kind k = between 1 6 k

-- "Allowed flag numbers", "for every kind"
unfoldable pub are_flags : ℕ → Bool
are_flags f = is_in f (0 ∷ 1 ∷ 2 ∷ 4 ∷ 5 ∷ 6 ∷ [])

-- "1 PAP was used"
abbrev pub pap : ℕ → Bool
pap f = eqb (f % 2) 1

-- "2 CHAP was used"
abbrev pub chap : ℕ → Bool
chap f = eqb (f / 2 % 2) 1

-- "4 Class was received"
abbrev pub class : ℕ → Bool
class f = eqb (f / 4 % 2) 1

-- what comes with an area that is checked: its kind and flags
pub record Context : Type 0 where
  pub kind : ℕ
  pub flags : ℕ

-- kind and flags, as they come with an area
abbrev pub comes : (kind flags : ℕ) → Context
comes k f = record { kind = k; flags = f }
