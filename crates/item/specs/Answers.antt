-- What the answers of this crate stand for, in the words of the meaning. Assumes nothing.
use Rattle.std.specs.Prelude.{ℕ, ◌+◌, ◌-◌, cond, not, ◌&&◌, List, eqb, ltb, length, drop, get_or, Result, Ok, Err}
use Rattle.meaning.specs.Versions.{current}
use Rattle.meaning.specs.Framing.{is_plain}
use Rattle.meaning.specs.Sheet.{number_in, stored_length}
use Rattle.meaning.specs.Sheet as meant
use Rattle.area.specs.declared.Refusal.{Refusal}
use Rattle.item.specs.declared.Head.{Head}

-- what the head of an item says, or a refusal
abbrev pub Headed : Type 0
Headed = Result Head Refusal

-- what stands at a place of a sheet
unfoldable pub entered_at : List ℕ → (place : ℕ) → meant.Entered
entered_at sheet p = meant.entered current (drop p sheet)

-- a refusal by its number and the place
abbrev pub head_refused : (number place : ℕ) → Headed
head_refused k p = Err (record { number = k; second = p })

-- an item whose head and stored octets are there, by its number, form and count and the place behind it; 23 where it is plain and has
-- a sub-attribute number
unfoldable pub head_from : (place type sub form count : ℕ) → Headed
head_from p t s f c =
    cond (is_plain (number_in t s f) && not (eqb s 0)) (head_refused 23 p)
    (Ok (record { number = number_in t s f; form = f; count = c; next = p + (4 + stored_length current f c) }))

-- what the head of an item at a place of a sheet says; 22 where the head or the stored octets pass the end
unfoldable pub headed_at : (sheet : List ℕ) (place : ℕ) → Headed
headed_at l p =
    cond (ltb (length l - p) 4) (head_refused 22 p)
    (cond (ltb (length l - p) (4 + stored_length current (get_or l (p + 2) 0) (get_or l (p + 3) 0))) (head_refused 22 p)
    (head_from p (get_or l p 0) (get_or l (p + 1) 0) (get_or l (p + 2) 0) (get_or l (p + 3) 0)))
