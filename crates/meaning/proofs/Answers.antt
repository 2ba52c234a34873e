-- The answers of the three jobs, exactly: when each is given and when refused. Assumes nothing.
use mathlib.Core.Path.{◌≡◌, refl, sym, subst, ◌∙◌}
use mathlib.Core.Logic.{◌↔◌}
use mathlib.Core.List.{List}
use Prim.Native.Nat.{ℕ, ◌≤◌}
use native.Mathlib.Omega.{arith}
use lib.Dec.{ltb}
use borrow.Author.Tests.{le-ltb, ltb-false}
use lib.ListN.{length, take, drop, length-append, length-drop}
use lib.Seq.{take_at, drop_at}
use Rattle.meaning.specs.Octets.{Octets}
use Rattle.meaning.specs.Versions.{current}
use Rattle.meaning.specs.Jobs.{Context}
use Rattle.meaning.specs.Framing.{walk, attributes}
use Rattle.meaning.specs.Refusals.{Refusal, none, refusal, first, too_short, area_refusal, area_order}
use Rattle.meaning.specs.Sheet.{sheet_as, sheet_of, Readable, version_in, kind_in, flags_in, area_in, judged}
use Rattle.meaning.specs.Breaches.{Breach, Lists}
use Rattle.meaning.specs.Listing.{list_of}
use Rattle.meaning.specs.Answers.{Answer, given, refused, unless, over, after, read_answer, check_answer, Written, write_answer, Promise}
use Rattle.meaning.specs.Answers.{LaidOver}
use Rattle.meaning.proofs.Sheets.{first_none, when_is_none, sheet_goes_back, accepted_sheet}
use Rattle.meaning.proofs.Rising.{one_list}
use Rattle.meaning.proofs.Placed.{list_lists}

-- Any two answers that a promise permits for one input are the same, and so is what the lent buffer holds after them.
module _ {X : Type 0} (answer : X) (lays : Answer (List ℕ)) (buffer : List ℕ) (said said' : X) (held held' : List ℕ) where
  pub one_answer : Promise answer lays buffer said held → Promise answer lays buffer said' held' → (said ≡ said') × (held ≡ held')
  one_answer p q = (p.says ∙ sym q.says, p.holds ∙ sym q.holds)

-- what was asked for is given where nothing applies
pub unless_given : {A : Type 0} (r : Refusal) (a b : A) → unless r a ≡ given b → (r ≡ none) × (a ≡ b)
unless_given none a b e = (refl, cc)
unless_given (refusal n s) a b e = absurd (let z : ◌≡◌ {A = ℕ} 0 1 = cc in omega arith)

-- and refused by the refusal that applies
pub unless_refused_lem : {A : Type 0} (r : Refusal) (a : A) (n s : ℕ) → unless r a ≡ refused n s → r ≡ refusal n s
unless_refused_lem none a n s e = absurd (let z : ◌≡◌ {A = ℕ} 0 1 = cc in omega arith)
unless_refused_lem (refusal k t) a n s e = let p : k ≡ n = cc in let q : t ≡ s = cc in rw (p, q)

-- a buffer with room adds no refusal
roomy : (r : Refusal) (n needed room : ℕ) → needed ≤ room → first r (too_short n needed room) ≡ r
roomy none n needed room h = rw (le-ltb room needed h)
roomy (refusal k s) n needed room h = refl

enough : (n needed room : ℕ) → too_short n needed room ≡ none → needed ≤ room
enough n needed room e = ltb-false room needed (when_is_none (ltb room needed) n needed e)

-- ---- Read and check

-- nothing of 1 to 8 applies, there is room, and s is the sheet
abbrev pub SheetGiven : (kind flags : ℕ) (area : List ℕ) (room : ℕ) → List ℕ → Type 0
SheetGiven kind flags area room s =
    (area_refusal kind flags area ≡ none) × (length (sheet_of kind flags area) ≤ room) × (s ≡ sheet_of kind flags area)

-- An area is read exactly when nothing of 1 to 8 applies and there is room, and then the answer is its sheet.
module _ (kind flags : ℕ) (area : List ℕ) (room : ℕ) where
  pub read_exactly : (s : List ℕ) → read_answer kind flags area room ≡ given s ↔ SheetGiven kind flags area room s
  unfolding read_answer area_order
  read_exactly s = (there, back)
    where
      sheet : List ℕ
      sheet = sheet_of kind flags area

      order : Refusal
      order = first (area_refusal kind flags area) (too_short 9 (length (sheet_of kind flags area)) room)

      there : unless order (sheet_of kind flags area) ≡ given s → SheetGiven kind flags area room s
      there e =
          let u = unless_given order sheet s e in
          let f = first_none (area_refusal kind flags area) (too_short 9 (length sheet) room) u.0 in
          (f.0, enough 9 (length sheet) room f.1, sym u.1)

      back : SheetGiven kind flags area room s → unless order (sheet_of kind flags area) ≡ given s
      back p = rw (roomy (area_refusal kind flags area) 9 (length sheet) room p.1, p.0, p.2)

-- The answer of a check is the list of exactly the breaches, given room for it.
pub check_given :
    (c : Context) (area : List ℕ) (room : ℕ) (l : List ℕ) → Readable c.kind c.flags area
    → Lists l (Breach c (length area) (attributes (walk area))) → length l ≤ room → check_answer c area room ≡ given l
unfolding check_answer area_order
check_given c area room l r lists h =
    let is : list_of c area ≡ l = one_list _ (list_of c area) l (list_lists c area r.octets) lists in
    rw (is, roomy (area_refusal c.kind c.flags area) 10 (length l) room h, r.accepted)

-- ---- Write

-- A sheet made by reading is written back, given room: the same octets, kind and flags.
pub written_back :
    (kind flags : ℕ) (area : List ℕ) (room : ℕ) → Readable kind flags area → length area ≤ room
    → write_answer (sheet_of kind flags area) room ≡ given (record { kind = kind; flags = flags; area = area })
unfolding write_answer
written_back kind flags area room r h =
    let s = sheet_goes_back current kind flags area r in
    rw (s.accepted, s.area_is, s.kind_is, s.flags_is, le-ltb room (length area) h)

-- what is written reads as the sheet
pub record ReadsAs (sheet : List ℕ) (w : Written) : Type 0 where
  pub readable : Readable w.kind w.flags w.area
  pub is : sheet_as (version_in sheet) w.kind w.flags w.area ≡ sheet

-- What is written is a readable area, kind and flags whose sheet is the sheet that was written.
pub written_reads : (sheet : List ℕ) (room : ℕ) (w : Written) → Octets sheet → write_answer sheet room ≡ given w → ReadsAs sheet w
unfolding write_answer
written_reads sheet room w o e =
    let whole : Written = record { kind = kind_in sheet; flags = flags_in sheet; area = area_in sheet } in
    let u = unless_given (first (judged sheet) (too_short 25 (length (area_in sheet)) room)) whole w e in
    let f = first_none (judged sheet) (too_short 25 (length (area_in sheet)) room) u.0 in
    let a = accepted_sheet sheet o f.0 in
    subst (ReadsAs sheet) u.1 (record { readable = a.readable; is = sym a.is })

-- ---- The lent buffer

-- what is laid over a buffer with room for it
pub over_laid : (s d : List ℕ) → length s ≤ length d → LaidOver s d (over s d)
unfolding over
over_laid s d h =
    record {
      start = take_at s (drop (length s) d) (length s) refl;
      rest = drop_at s (drop (length s) d) (length s) refl;
      kept = omega (arith, length-append s (drop (length s) d), length-drop (length s) d);
    }

-- Success changes what is written; a refusal changes nothing.
pub after_given : (s d : List ℕ) → length s ≤ length d → LaidOver s d (after (given s) d)
unfolding after
after_given s d h = over_laid s d h

pub after_refused : (n k : ℕ) (d : List ℕ) → after (refused n k) d ≡ d
unfolding after
after_refused n k d = refl

-- What is given is read off the buffer's start.
pub after_start : (s d : List ℕ) → take (length s) (after (given s) d) ≡ s
unfolding after over
after_start s d = take_at s (drop (length s) d) (length s) refl
