-- The answers of the desk's three jobs for any input and any room, and what the lent buffer holds after. Assumes nothing.
use Rattle.std.specs.Prelude.{◌≡◌, ℕ, List, ◌++◌, length, take, drop}
use Rattle.meaning.specs.Jobs.{Context}
use Rattle.meaning.specs.Refusals.{Refusal, none, refusal, first, too_short, area_order}
use Rattle.meaning.specs.Sheet.{sheet_of, kind_in, flags_in, area_in, judged}
use Rattle.meaning.specs.Listing.{list_of}

-- what was asked for, or the refusal by its number and second number
pub data Answer (A : Type 0) : Type 0 where
  given : A → Answer A
  refused : (number second : ℕ) → Answer A

-- what was asked for, unless it is refused
abbrev pub unless : {A : Type 0} → Refusal → A → Answer A
unless none a = given a
unless (refusal n s) a = refused n s

-- "from the buffer's start": s over the start of the buffer d
unfoldable pub over : (s d : List ℕ) → List ℕ
over s d = s ++ drop (length s) d

-- "Success changes only": s stands at the start of the buffer d, and the rest is as it was
pub record LaidOver (s d out : List ℕ) : Type 0 where
  pub start : take (length s) out ≡ s
  pub rest : drop (length s) out ≡ drop (length s) d
  pub kept : length out ≡ length d

-- the buffer after an answer; "A refusal leaves each buffer unchanged"
unfoldable pub after : Answer (List ℕ) → (buffer : List ℕ) → List ℕ
after (given s) d = over s d
after (refused n s) d = d

-- what a job promises for one input: what it says, and what the lent buffer holds then
pub record Promise {X : Type 0} (answer : X) (lays : Answer (List ℕ)) (buffer : List ℕ) (said : X) (held : List ℕ) : Type 0 where
  pub says : said ≡ answer
  pub holds : held ≡ after lays buffer

-- ---- Read

-- Read: "kind and flags give a sheet", or the first refusal that applies
unfoldable pub read_answer : (kind flags : ℕ) (area : List ℕ) (room : ℕ) → Answer (List ℕ)
read_answer kind flags area room =
    unless (area_order kind flags area 9 (length (sheet_of kind flags area)) room) (sheet_of kind flags area)

-- what reading promises, its answer shown by the cases of an enum
abbrev pub Reads :
    {X : Type 0} (show : Answer (List ℕ) → X) (kind flags : ℕ) (area buffer : List ℕ) (said : X) (held : List ℕ) → Type 0
Reads show kind flags area buffer said held =
    Promise (show (read_answer kind flags area (length buffer))) (read_answer kind flags area (length buffer)) buffer said held

-- ---- Check

-- Check: "a list of breaches", or the first refusal that applies
unfoldable pub check_answer : Context → (area : List ℕ) (room : ℕ) → Answer (List ℕ)
check_answer c area room =
    unless (area_order c.kind c.flags area 10 (length (list_of c area)) room) (list_of c area)

-- what checking promises, its answer shown by the cases of an enum
abbrev pub Checks : {X : Type 0} (show : Answer (List ℕ) → X) → Context → (area buffer : List ℕ) (said : X) (held : List ℕ) → Type 0
Checks show c area buffer said held =
    Promise (show (check_answer c area (length buffer))) (check_answer c area (length buffer)) buffer said held

-- ---- Write

-- what "a sheet gives back"
pub record Written : Type 0 where
  pub kind : ℕ
  pub flags : ℕ
  pub area : List ℕ

-- Write: what "a sheet gives back"; 25 is the last of its refusals
unfoldable pub write_answer : (sheet : List ℕ) (room : ℕ) → Answer Written
write_answer sheet room =
    unless (first (judged sheet) (too_short 25 (length (area_in sheet)) room))
    (record { kind = kind_in sheet; flags = flags_in sheet; area = area_in sheet })

-- the area of a written sheet, or the refusal
unfoldable pub area_answer : Answer Written → Answer (List ℕ)
area_answer (given w) = given w.area
area_answer (refused n s) = refused n s

-- what writing promises, its answer shown by the cases of an enum
abbrev pub Writes : {X : Type 0} (show : Answer Written → X) (sheet buffer : List ℕ) (said : X) (held : List ℕ) → Type 0
Writes show sheet buffer said held =
    Promise (show (write_answer sheet (length buffer))) (area_answer (write_answer sheet (length buffer))) buffer said held
