-- The presence table, "a table of 1,536 entries": what the row of a kind in it holds. Assumes nothing.
use Rattle.std.specs.Prelude.{ℕ, ◌≤◌, ◌<◌, ◌≡◌, List, length, get_or}
use Rattle.meaning.specs.Jobs.{Context}
use Rattle.meaning.specs.Codes.{code}

-- a kind that is not refused
pub record Known (kind : ℕ) : Type 0 where
  pub least : 1 ≤ kind
  pub most : kind ≤ 6

-- the row of a kind: the code of each plain number
pub record Row (c : Context) (codes : List ℕ) : Type 0 where
  pub long : length codes ≡ 256
  pub says : (n : ℕ) → n < 256 → get_or codes n 0 ≡ code c n
