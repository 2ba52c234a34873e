-- What the answers of this crate stand for, in the words of the meaning: a step by what stands at a place, an arrival by the first of
-- refusals 1 to 3. Assumes nothing.
use Rattle.std.specs.Prelude.{ℕ, ◌+◌, ◌-◌, cond, ◌&&◌, List, eqb, ltb, length, get_or, Option, None, Some, Result, Ok, Err}
use Rattle.meaning.specs.Octets.{number_of}
use Rattle.meaning.specs.Framing.{head_length, gpp, vendor3gpp, Found, attribute, refused, nothing}
use Rattle.octets.specs.Parts.{part_of}
use Rattle.meaning.specs.Refusals as book
use Rattle.area.specs.declared.Refusal.{Refusal}
use Rattle.area.specs.declared.Carried.{Carried}

-- what stands at a place: an attribute, nothing, or a refusal
abbrev pub Step : Type 0
Step = Result (Option Carried) Refusal

-- what was found at a place, its value as a part of the area
abbrev pub step_of : (place : ℕ) → Found → Step
step_of p (attribute n h s) = Ok (Some (record { number = n; value = record { start = p + h; len = s - h }; next = p + s }))
step_of p (refused k) = Err (record { number = k; second = p })
step_of p nothing = Ok None

-- a refusal of the code, as the book has it
abbrev pub in_book : Refusal → book.Refusal
in_book r = book.refusal r.number r.second

-- what comes with an area, by its refusal, if any
abbrev pub arrival_from : book.Refusal → Result (Unit {0}) Refusal
arrival_from book.none = Ok tt
arrival_from (book.refusal k s) = Err (record { number = k; second = s })

-- kind, flags and the length of an area, by the first of 1 to 3 that applies
unfoldable pub arrival_of : (kind flags size : ℕ) → Result (Unit {0}) Refusal
arrival_of kind flags size = arrival_from (book.first (book.kind_refusal kind flags) (book.too_long 3 size))

-- the number that is carried at a place: of type 26 with vendor 10415 the sub-attribute's, else the type
unfoldable pub number_at : List ℕ → (place : ℕ) → ℕ
number_at l p =
    cond (eqb (get_or l p 0) 26 && eqb (number_of (part_of l (p + 2) 4)) vendor3gpp) (gpp (get_or l (p + 6) 0)) (get_or l p 0)

-- what a well framed area carries at a place, with the number already told
unfoldable pub carried_as : (number : ℕ) → List ℕ → (place : ℕ) → Carried
carried_as n l p =
    record {
      number = n;
      value = record { start = p + head_length n; len = get_or l (p + 1) 0 - head_length n };
      next = p + get_or l (p + 1) 0;
    }

-- what a well framed area carries at a place; nothing at its end
unfoldable pub carried_at : List ℕ → (place : ℕ) → Carried
carried_at l p =
    cond (ltb p (length l)) (carried_as (number_at l p) l p)
    (record { number = 0; value = record { start = p; len = 0 }; next = p })
