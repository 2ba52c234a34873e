-- What the first octets of a sheet decide of it, where it has more than these: the refusal of every sheet that begins so. Assumes nothing.
use Rattle.std.specs.Prelude.{ℕ, Bool, true, cond, List, eqb, leb, length, take}
use Rattle.meaning.specs.Refusals.{Refusal, none, refusal, when}
use Rattle.meaning.specs.Sheet.{judged}

-- the items fill the sheet exactly: nothing is refused, or only the length of the area
unfoldable pub filled : Refusal → Bool
filled none = true
filled (refusal n s) = eqb n 24

-- by what the kept octets alone are judged: where their items fill them, octets remain behind these. A 22 stands where all items end
-- before it, and octets remain; else an item was not kept whole, and it hangs on the rest.
abbrev pub start_by : (kept : List ℕ) → Refusal → Refusal
start_by l none = refusal 22 (length l)
start_by l (refusal n s) =
    cond (eqb n 24) (refusal 22 (length l)) (cond (eqb n 22) (when (filled (judged (take s l))) 22 s) (when (leb 9 (length l)) n s))

-- the refusal that the kept octets of a longer sheet decide; none where it hangs on the rest
unfoldable pub start_refusal : (kept : List ℕ) → Refusal
start_refusal l = start_by l (judged l)
