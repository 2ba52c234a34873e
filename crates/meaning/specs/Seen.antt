-- The book, "Worked cases": area A and the cases P1 to P10, as data. Assumes nothing.
use Rattle.std.specs.Prelude.{ℕ, List, [], ◌∷◌, ◌++◌, ◌≡◌, length}
use Rattle.meaning.specs.Jobs.{comes}
use Rattle.meaning.specs.Framing.{walk, attributes}
use Rattle.meaning.specs.Refusals.{none, refusal, area_refusal}
use Rattle.meaning.specs.Sheet.{sheet_of}
use Rattle.meaning.specs.Breaches.{Breach, Lists}
use Rattle.meaning.specs.Answers.{Answer, given, refused}

-- the job of a case
pub data Job : Type 0 where
  read : Job
  check : Job

-- a case: what is asked, and what the answer is
pub record Case : Type 0 where
  pub job : Job
  pub kind : ℕ
  pub flags : ℕ
  pub area : List ℕ
  pub says : Answer (List ℕ)

-- "Area A": a NAS-IP-Address and a 3GPP-IMSI-MCC-MNC
abbrev pub area_a : List ℕ
area_a =
    0x04 ∷ 0x06 ∷ 0x0A ∷ 0x00 ∷ 0x00 ∷ 0x01
    ∷ 0x1A ∷ 0x0D ∷ 0x00 ∷ 0x00 ∷ 0x28 ∷ 0xAF ∷ 0x08 ∷ 0x07 ∷ 0x30 ∷ 0x30 ∷ 0x31 ∷ 0x30 ∷ 0x31 ∷ []

-- "the whole sheet" of A, in kind 4 with flags 0
abbrev pub sheet_a : List ℕ
sheet_a =
    0x47 ∷ 0x49 ∷ 0x52 ∷ 0x00 ∷ 0x01 ∷ 0x04 ∷ 0x00 ∷ 0x00 ∷ 0x02
    ∷ 0x04 ∷ 0x00 ∷ 0x03 ∷ 0x04 ∷ 0x0A ∷ 0x00 ∷ 0x00 ∷ 0x01
    ∷ 0x1A ∷ 0x08 ∷ 0x04 ∷ 0x05 ∷ 0x00 ∷ 0x10 ∷ 0x1F ∷ []

-- a case by its parts
abbrev pub asked : Job → (kind flags : ℕ) (area : List ℕ) (says : Answer (List ℕ)) → Case
asked job kind flags area says = record { job = job; kind = kind; flags = flags; area = area; says = says }

-- a case that is asked of reading and of checking, in kind 1
abbrev pub both : (flags : ℕ) (area : List ℕ) (says : Answer (List ℕ)) → List Case
both flags area says = asked read 1 flags area says ∷ asked check 1 flags area says ∷ []

-- P1 to P5, of which request 1 amends P2 and P5, then P6 to P10
abbrev pub cases : List Case
cases =
    asked read 4 0 area_a (given sheet_a)
    ∷ asked check 4 0 area_a (given (0x00641A08 ∷ 0x01362800 ∷ []))
    ∷ asked check 3 0 area_a (given (0x01360800 ∷ 0x01361E00 ∷ 0x01362800 ∷ 0x01362C00 ∷ []))
    ∷ asked check 1 0 [] (given (0x00060100 ∷ 0x00061E00 ∷ 0x00070400 ∷ []))
    ∷ asked check 4 0 [] (given (0x00062800 ∷ 0x00070400 ∷ []))
    ∷ both 0 (0x04 ∷ []) (refused 4 0)
    ++ both 0 (0x04 ∷ 0x01 ∷ []) (refused 5 0)
    ++ both 0 (0x1A ∷ 0x07 ∷ []) (refused 6 0)
    ++ both 0 (0x1A ∷ 0x06 ∷ 0x00 ∷ 0x00 ∷ 0x28 ∷ 0xAF ∷ []) (refused 7 0)
    ++ both 3 [] (refused 2 0)

-- What is meant by an answer, given room: a sheet is that of the area, a list has exactly the breaches of its attributes,
-- and a refusal is the first that applies.
abbrev pub Meant : Job → (kind flags : ℕ) (area : List ℕ) → Answer (List ℕ) → Type 0
Meant read kind flags area (given s) = (area_refusal kind flags area ≡ none) × (s ≡ sheet_of kind flags area)
Meant check kind flags area (given l) =
    (area_refusal kind flags area ≡ none) × Lists l (Breach (comes kind flags) (length area) (attributes (walk area)))
Meant read kind flags area (refused n s) = area_refusal kind flags area ≡ refusal n s
Meant check kind flags area (refused n s) = area_refusal kind flags area ≡ refusal n s
