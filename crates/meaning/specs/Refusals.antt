-- The book, "Refusals": their numbers with their second numbers, and the two orders.
-- 4 to 8 are found by the framing, 22 and 23 by the items of a sheet; both come here as a walk. Assumes nothing.
use Rattle.std.specs.Prelude.{ℕ, Bool, true, false, not, ◌&&◌, List, ltb, length}
use Rattle.meaning.specs.Jobs.{is_kind, are_flags}
use Rattle.meaning.specs.Framing.{Walk, end, broken, next, walk}

-- "No.", "Second number": a refusal with both, or none
pub data Refusal : Type 0 where
  none : Refusal
  refusal : (number second : ℕ) → Refusal

-- a row of the book, "When": its number and second number, if it applies
abbrev pub when : (applies : Bool) (number second : ℕ) → Refusal
when true n s = refusal n s
when false n s = none

-- "the first that applies"
abbrev pub first : Refusal → Refusal → Refusal
first none r = r
first (refusal n s) r = refusal n s

-- 4 to 8, 22, 23: the refusal that a walk ends in
unfoldable pub fault : Walk → Refusal
fault end = none
fault (broken n p) = refusal n p
fault (next a w) = fault w

-- 9, 10, 25: what is needed is longer than its buffer
abbrev pub too_short : (number needed room : ℕ) → Refusal
too_short n needed room = when (ltb room needed) n needed

-- 3, 24: "area over 4,076 octets", second number "its length"
abbrev pub too_long : (number size : ℕ) → Refusal
too_long n size = when (ltb 4076 size) n size

-- 3, then 4 to 8: what the framing alone refuses
unfoldable pub framing_refusal : List ℕ → Refusal
framing_refusal area = first (too_long 3 (length area)) (fault (walk area))

-- 1 and 2: what a kind and flags are refused for
unfoldable pub kind_refusal : (kind flags : ℕ) → Refusal
kind_refusal kind flags = first (when (not (is_kind kind)) 1 0) (when (not (are_flags flags)) 2 0)

-- "Order for read and check": 1 and 2, then the framing
unfoldable pub area_refusal : (kind flags : ℕ) → List ℕ → Refusal
area_refusal kind flags area = first (kind_refusal kind flags) (framing_refusal area)

-- the order for read and check, to its end: "then 9 (read) or 10 (check)", whose number is given
unfoldable pub area_order : (kind flags : ℕ) → List ℕ → (number needed room : ℕ) → Refusal
area_order kind flags area n needed room = first (area_refusal kind flags area) (too_short n needed room)

-- the order for writing, but for 25: 20, 21, what the walk over the items ends in, 24
unfoldable pub sheet_refusal : (marked : Bool) (kind flags : ℕ) (items : Walk) (area_length : ℕ) → Refusal
sheet_refusal marked kind flags items len =
    first (when (not marked) 20 0)
    (first (when (not (is_kind kind && are_flags flags)) 21 0) (first (fault items) (too_long 24 len)))
