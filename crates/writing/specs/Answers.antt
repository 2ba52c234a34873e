-- What the answers of this crate stand for, in the numbers and values of the book. Assumes nothing.
use Rattle.std.specs.Prelude.{ℕ, ◌+◌, ◌≤◌, ◌≡◌, List, not, ◌&&◌, length, take, Option, None, Some, Result, Ok, Err}
use Rattle.meaning.specs.Jobs.{is_kind, are_flags}
use Rattle.meaning.specs.Refusals as book
use Rattle.meaning.specs.Sheet.{items_in, kind_in, flags_in, area_in, marked, judged}
use Rattle.meaning.specs.Answers as meant
use Rattle.octets.specs.Handing.{Handed}
use Rattle.writing.specs.Attributes.{span}
use Rattle.area.specs.declared.Refusal.{Refusal}
use Rattle.writing.specs.declared.Written.{Written}

-- a refusal of the code, by the book's number and second number
abbrev pub refused_as : (number second : ℕ) → Refusal
refused_as n s = record { number = n; second = s }

-- ---- The judgement of a sheet

-- what is said of a sheet that is written, or a refusal
abbrev pub Judgement : Type 0
Judgement = Result Written Refusal

-- the refusal; or where there is none, that the sheet is written, with the octets of its area, its kind and its flags
abbrev pub judgement_from : book.Refusal → (size kind flags : ℕ) → Judgement
judgement_from book.none n k f = Ok (record { length = n; kind = k; flags = f })
judgement_from (book.refusal x s) n k f = Err (refused_as x s)

-- the same of a sheet
abbrev pub judgement_by : book.Refusal → (sheet : List ℕ) → Judgement
judgement_by r sheet = judgement_from r (length (area_in sheet)) (kind_in sheet) (flags_in sheet)

-- what a sheet is judged by the first of 20 to 24 that applies
unfoldable pub judgement_of : (sheet : List ℕ) → Judgement
judgement_of sheet = judgement_by (judged sheet) sheet

-- what is said of a longer sheet by its first octets: the refusal that they decide, or that it hangs on the rest
abbrev pub start_said : book.Refusal → Option Refusal
start_said book.none = None
start_said (book.refusal n s) = Some (refused_as n s)

-- 20 or 21, where one applies
unfoldable pub front_refusal : (sheet : List ℕ) → book.Refusal
front_refusal sheet =
    book.first (book.when (not (marked sheet)) 20 0) (book.when (not (is_kind (kind_in sheet) && are_flags (flags_in sheet))) 21 0)

abbrev pub front_from : book.Refusal → Result (Unit {0}) Refusal
front_from book.none = Ok tt
front_from (book.refusal n s) = Err (refused_as n s)

-- what the front of a sheet says
unfoldable pub front_of : (sheet : List ℕ) → Result (Unit {0}) Refusal
front_of sheet = front_from (front_refusal sheet)

-- the refusal, 22 or 23; or where there is none, the octets that the items give
abbrev pub pass_from : book.Refusal → (size : ℕ) → Result ℕ Refusal
pass_from book.none n = Ok n
pass_from (book.refusal k p) n = Err (refused_as k p)

-- the area of a sheet stands at a buffer's start where no item is refused and it has room behind them for one attribute more with its head
abbrev pub AreaStands : (sheet buf : List ℕ) → Type 0
AreaStands sheet buf =
    book.fault (items_in sheet) ≡ book.none → length (area_in sheet) + span ≤ length buf → take (length (area_in sheet)) buf ≡ area_in sheet

-- what the items of a sheet say, and what the buffer in which their attributes are laid begins with
pub record Transcribed (sheet : List ℕ) (said : Result ℕ Refusal) (buf : List ℕ) : Type 0 where
  pub says : said ≡ pass_from (book.fault (items_in sheet)) (length (area_in sheet))
  pub holds : AreaStands sheet buf

-- what a sheet is judged, and what the buffer in which its area is laid begins with
pub record Made (sheet : List ℕ) (said : Judgement) (buf : List ℕ) : Type 0 where
  pub says : said ≡ judgement_of sheet
  pub holds : AreaStands sheet buf

-- ---- What is written

-- an area by its length, with kind and flags; a refusal by its number and second number
abbrev pub area_said : (kind flags : ℕ) → meant.Answer (List ℕ) → Judgement
area_said k f (meant.given a) = Ok (record { length = length a; kind = k; flags = f })
area_said k f (meant.refused n s) = Err (refused_as n s)

-- what is said of a sheet that is written and whose area a buffer begins with, and what the lent buffer holds then
unfoldable pub HandedOver : Written → (made buffer : List ℕ) (said : Judgement) (held : List ℕ) → Type 0
HandedOver w made d said held = Handed (area_said w.kind w.flags) 25 (take w.length made) d said held

-- the same of all that is written
abbrev pub writing_of : meant.Answer meant.Written → Judgement
writing_of (meant.given w) = Ok (record { length = length w.area; kind = w.kind; flags = w.flags })
writing_of (meant.refused n s) = Err (refused_as n s)

-- what writing answers, and what the lent buffer holds then
abbrev pub Wrote : (sheet buffer : List ℕ) (said : Judgement) (held : List ℕ) → Type 0
Wrote = meant.Writes writing_of
