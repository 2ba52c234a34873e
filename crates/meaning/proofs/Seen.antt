-- P1 to P10, the book's worked cases, in one claim: each answer is what the definitions say of it, by the relation where
-- it is a list. Assumes nothing.
use mathlib.Core.Path.{◌≡◌, refl, sym}
use mathlib.Core.List.{List, [], ◌∷◌, map}
use Prim.Native.Nat.{ℕ}
use lib.Dec.{T, ltb, ltb→lt}
use Rattle.meaning.specs.Octets.{all, Octets}
use Rattle.meaning.specs.Jobs.{comes}
use Rattle.meaning.specs.Refusals.{area_refusal}
use Rattle.meaning.specs.Sheet.{sheet_of}
use Rattle.meaning.specs.Answers.{Answer, given, refused, unless}
use Rattle.meaning.specs.Listing.{list_of}
use Rattle.meaning.specs.Seen.{Job, read, check, Case, cases, Meant}
use Rattle.meaning.proofs.Tests.{parts}
use Rattle.meaning.proofs.Computing.{computing}
use Rattle.meaning.proofs.Answers.{unless_given, unless_refused_lem}
use Rattle.meaning.proofs.Placed.{list_lists}

-- the answer to a case, given room
abbrev answer_to : Job → (kind flags : ℕ) → List ℕ → Answer (List ℕ)
answer_to read kind flags area = unless (area_refusal kind flags area) (sheet_of kind flags area)
answer_to check kind flags area = unless (area_refusal kind flags area) (list_of (comes kind flags) area)

-- a computed answer means what the definitions say
meant : (job : Job) (kind flags : ℕ) (area : List ℕ) (a : Answer (List ℕ)) → Octets area → answer_to job kind flags area ≡ a
    → Meant job kind flags area a
meant read kind flags area (given s) o e =
    let u = unless_given (area_refusal kind flags area) (sheet_of kind flags area) s e in
    (u.0, sym u.1)
meant check kind flags area (given l) o e =
    let u = unless_given (area_refusal kind flags area) (list_of (comes kind flags) area) l e in
    (u.0, rw u.1 at (list_lists (comes kind flags) area o))
meant read kind flags area (refused n s) o e = unless_refused_lem (area_refusal kind flags area) (sheet_of kind flags area) n s e
meant check kind flags area (refused n s) o e = unless_refused_lem (area_refusal kind flags area) (list_of (comes kind flags) area) n s e

abbrev pub Each : (Case → Type 0) → List Case → Type 0
Each P [] = Unit {0}
Each P (c ∷ l) = P c × Each P l

octets_of_lem : (l : List ℕ) → T (all (λ x. ltb x 256) l) → Octets l
octets_of_lem [] t = tt
octets_of_lem (x ∷ l) t = let b = parts (ltb x 256) (all (λ x. ltb x 256) l) t in (ltb→lt x 256 b.0, octets_of_lem l b.1)

-- the areas of the cases are octets
areas : Each (λ (c : Case). T (all (λ x. ltb x 256) c.area)) cases
areas = (tt, (tt, (tt, (tt, (tt, (tt, (tt, (tt, (tt, (tt, (tt, (tt, (tt, (tt, (tt, tt)))))))))))))))

computed : map (λ (c : Case). answer_to c.job c.kind c.flags c.area) cases ≡ map (λ (c : Case). c.says) cases
unfolding computing
computed = refl

each : (l : List Case) → Each (λ (c : Case). T (all (λ x. ltb x 256) c.area)) l
    → map (λ (c : Case). answer_to c.job c.kind c.flags c.area) l ≡ map (λ (c : Case). c.says) l
    → Each (λ (c : Case). Meant c.job c.kind c.flags c.area c.says) l
each [] o e = tt
each (c ∷ l) o e = (meant c.job c.kind c.flags c.area c.says (octets_of_lem c.area o.0) (cc), each l o.1 (cc))

-- The claim.
pub seen : Each (λ (c : Case). Meant c.job c.kind c.flags c.area c.says) cases
seen = each cases areas computed
