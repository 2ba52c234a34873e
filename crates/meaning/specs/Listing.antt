-- The list of an area's breaches, computed. No reader has to believe it: `list_lists` of proofs/Placed shows that it has exactly the
-- breaches of specs/Breaches, in rising order. Assumes nothing.
use Rattle.std.specs.Prelude.{ℕ, Bool, true, false, not, ◌&&◌, ◌||◌, List, [], ◌∷◌, ◌++◌, map, eqb, length}
use Rattle.meaning.specs.Octets.{is_in}
use Rattle.meaning.specs.Jobs.{Context}
use Rattle.meaning.specs.Framing.{gpp, Attribute, Walk, walk, attributes}
use Rattle.meaning.specs.Shapes.{allowed}
use Rattle.meaning.specs.Presence.{mandatory, conditional}
use Rattle.meaning.specs.Breaches.{entry, met, once_only, barred, asks_pdp_type}

-- ---- Candidates

-- an entry that may stand in the list, with its test
pub record Candidate : Type 0 where
  pub key : ℕ
  pub stands : Bool

-- x before l, if the test passes
abbrev pub put : Bool → ℕ → List ℕ → List ℕ
put true x l = x ∷ l
put false x l = l

-- those whose test passes
unfoldable pub chosen : List Candidate → List ℕ
chosen [] = []
chosen (d ∷ l) = put d.stands d.key (chosen l)

-- ---- At an attribute

-- all that the rules see of an attribute: its place and number, whether its shape is met and whether its value is allowed
pub record View : Type 0 where
  pub place : ℕ
  pub number : ℕ
  pub shaped : Bool
  pub fine : Bool

unfoldable pub view : Context → Attribute → View
view c a = record { place = a.place; number = a.number; shaped = met a; fine = allowed c a.number a.value }

-- rules 1 to 4; again says that rule 3 is broken
unfoldable pub broken_by : Context → (again : Bool) → View → List Candidate
broken_by c again x =
    record { key = entry x.place 1 x.number; stands = not x.shaped }
    ∷ record { key = entry x.place 2 x.number; stands = x.shaped && not x.fine }
    ∷ record { key = entry x.place 3 x.number; stands = again }
    ∷ record { key = entry x.place 4 x.number; stands = barred c x.number }
    ∷ []

-- what an attribute breaks, by the numbers seen before it
unfoldable pub at_attribute : Context → (seen : List ℕ) → View → List Candidate
at_attribute c seen x = broken_by c (once_only x.number && is_in x.number seen) x

-- what the attributes break, from the left
unfoldable pub along : Context → (seen : List ℕ) → List View → List Candidate
along c seen [] = []
along c seen (x ∷ l) = at_attribute c seen x ++ along c (seen ++ x.number ∷ []) l

-- ---- At the end

-- the numbers that rule 6 can ask for, and those that rule 7 can, in the order of their entries
abbrev pub demandable : List ℕ
demandable = 1 ∷ 8 ∷ 30 ∷ 40 ∷ 44 ∷ []

abbrev pub wantable : List ℕ
wantable = 2 ∷ 3 ∷ 4 ∷ 25 ∷ gpp 3 ∷ 60 ∷ []

-- rule 6 for one number
abbrev pub lacking : Context → (size : ℕ) (seen : List ℕ) (number : ℕ) → Candidate
lacking c size seen n = record { key = entry size 6 n; stands = mandatory c n && not (is_in n seen) }

-- whether rule 7 asks for a number, by the numbers seen
unfoldable pub wants : Context → (seen : List ℕ) (number : ℕ) → Bool
wants c seen n =
    conditional c n || ((eqb n 4 && not (is_in 32 seen)) || (eqb n (gpp 3) && (asks_pdp_type c && is_in 7 seen)))

-- rule 7 for one number
abbrev pub wanting : Context → (size : ℕ) (seen : List ℕ) (number : ℕ) → Candidate
wanting c size seen n = record { key = entry size 7 n; stands = wants c seen n && not (is_in n seen) }

-- what the end breaks, by all the numbers seen: rules 5 to 7
unfoldable pub at_end : Context → (size : ℕ) (seen : List ℕ) → List Candidate
at_end c size seen =
    record { key = entry size 5 3; stands = eqb c.kind 1 && (is_in 2 seen && is_in 3 seen) }
    ∷ map (lacking c size seen) demandable
    ++ map (wanting c size seen) wantable

-- ---- The list

-- the numbers seen
abbrev pub numbers_of : List View → List ℕ
numbers_of = map (λ (x : View). x.number)

-- the list by the views of an area's attributes
unfoldable pub breaches : Context → (size : ℕ) → List View → List ℕ
breaches c size l = chosen (along c [] l ++ at_end c size (numbers_of l))

-- the views of the attributes that a walk passes
abbrev pub views_of : Context → Walk → List View
views_of c w = map (view c) (attributes w)

-- "a list of breaches" of an area, its attributes taken from the walk
unfoldable pub list_of : Context → (area : List ℕ) → List ℕ
list_of c area = breaches c (length area) (views_of c (walk area))
