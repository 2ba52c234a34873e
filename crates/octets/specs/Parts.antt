-- Parts of an area, a sheet or a buffer: taken, read as a number, laid over. Assumes nothing.
use Rattle.std.specs.Prelude.{ℕ, ◌+◌, ◌^◌, ◌<◌, ◌≤◌, ◌≡◌, Bool, cond, List, ◌++◌, leb, length, take, drop}
use Rattle.meaning.specs.Octets.{number_of}
use Rattle.meaning.specs.Answers.{over}

-- the n octets from a place on, or as many of them as there are
unfoldable pub part_of : List ℕ → (at n : ℕ) → List ℕ
part_of l at n = take n (drop at l)

-- r is the number that octets stand for, and of their width
pub record Numbered (l : List ℕ) (r : ℕ) : Type 0 where
  pub is : r ≡ number_of l
  pub fits : r < 256 ^ length l

-- out is the buffer d with the first i of s over its start, and d has room for the rest of s
pub record Overlaid (s d out : List ℕ) (i : ℕ) : Type 0 where
  pub within : i ≤ length s
  pub room : length s ≤ length d
  pub kept : length out ≡ length d
  pub is : out ≡ over (take i s) d

-- the octets s fit into the buffer d from a place on
unfoldable pub fits_at : (at : ℕ) (s d : List ℕ) → Bool
fits_at at s d = leb (at + length s) (length d)

-- the buffer d with s over it from a place on, if s fits; else d as it was
unfoldable pub laid_at : (at : ℕ) (s d : List ℕ) → List ℕ
laid_at at s d = cond (fits_at at s d) (take at d ++ over s (drop at d)) d

-- what a writer of s at a place of the buffer d says, and what the buffer holds then
pub record Laid (at : ℕ) (s d : List ℕ) (said : Bool) (held : List ℕ) : Type 0 where
  pub says : said ≡ fits_at at s d
  pub holds : held ≡ laid_at at s d

-- out is the buffer d with the octets s at a place: what stands before is kept, and nothing is said of what stands behind
pub record Begun (at : ℕ) (s d out : List ℕ) : Type 0 where
  pub kept : length out ≡ length d
  pub is : take (at + length s) out ≡ take at d ++ s
