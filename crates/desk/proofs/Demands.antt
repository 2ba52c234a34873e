-- The demands on the desk, over its promises: what every answer that the promises permit is like. The words are those of
-- specs/Calls.antt, the definitions those of crates/meaning/specs. From top to bottom: each promise admits one answer; demand 1, the
-- refusals; demand 2, reading, writing and both return trips; demand 3, the list; the requests. Assumes nothing.
use mathlib.Core.Path.{◌≡◌, refl, sym, ap, ◌∙◌}
use mathlib.Core.Logic.{◌⊎◌, ◌↔◌}
use mathlib.Core.List.{List}
use Prim.Native.Nat.{ℕ, ◌≤◌}
use native.Mathlib.Omega.{arith}
use lib.Dec.{T}
use lib.ListN.{length, take}
use borrow.Author.Tests.{le-ltb}
use Rattle.meaning.specs.Versions.{current}
use Rattle.meaning.specs.Jobs.{Context}
use Rattle.meaning.specs.Framing.{WellFramed, walk, attributes}
use Rattle.meaning.specs.Refusals.{none, area_refusal}
use Rattle.meaning.specs.Sheet.{version_in, kind_in, flags_in, area_in, judged, Writable}
use Rattle.meaning.specs.Breaches.{entry, Among, Absent}
use Rattle.meaning.specs.Listing.{list_of}
use Rattle.meaning.specs.Answers.{given, Written, read_answer, check_answer, write_answer, area_answer}
use Rattle.meaning.proofs.Walked.{framed_exactly}
use Rattle.meaning.proofs.Sheets.{Clear, clear, clear_read, written_exactly, sheet_goes_back, one_area}
use Rattle.meaning.proofs.Answers.{one_answer, read_exactly, check_given, written_back}
use Rattle.meaning.proofs.Rising.{one_list}
use Rattle.meaning.proofs.Placed.{list_lists}
use Rattle.meaning.proofs.Presence.{status_alone}
use Rattle.meaning.proofs.Entries.{can_break, Tells, one_telling, area_breach_tells, lacks_exactly}
use Rattle.desk.specs.declared.Answer as exported
use Rattle.std.specs.Prelude.{Ok, Err}
use Rattle.desk.specs.Answers.{Reading, Checking, Writing}
use Rattle.desk.specs.Answers.{reading_of, checking_of, writing_of, Read, Checked, Wrote, ReadOut, CheckedOut, WroteOut}
use Rattle.desk.specs.Calls.{ReadCall, CheckCall, WriteCall, sheet_for, OneAnswer, read_order, check_order, write_order, Refuses, Gives}
use Rattle.desk.specs.Calls.{IsRead, IsWritten, Given, WritesBack, ReadsBack, ReadableCall, ListsBreaches}
use Rattle.desk.proofs.Calling.{refuses, read_shown_lem, check_shown_lem, write_shown_lem, was_read, was_written, gives}

-- ---- One answer: any two that a promise permits for one input are the same, and so is what the lent buffer holds then.

pub one_reading : (kind flags : ℕ) (area buffer : List ℕ) → OneAnswer Reading (Read kind flags area buffer)
one_reading kind flags area buffer = one_answer _ _ buffer

pub one_checking : (c : Context) (area buffer : List ℕ) → OneAnswer Checking (Checked c area buffer)
one_checking c area buffer = one_answer _ _ buffer

pub one_writing : (sheet buffer : List ℕ) → OneAnswer Writing (Wrote sheet buffer)
one_writing sheet buffer = one_answer _ _ buffer

pub one_reading_out : (kind flags : ℕ) (area buffer : List ℕ) → OneAnswer exported.Answer (ReadOut kind flags area buffer)
one_reading_out kind flags area buffer = one_answer _ _ buffer

pub one_checking_out : (c : Context) (area buffer : List ℕ) → OneAnswer exported.Answer (CheckedOut c area buffer)
one_checking_out c area buffer = one_answer _ _ buffer

pub one_writing_out : (sheet buffer : List ℕ) → OneAnswer exported.Answer (WroteOut sheet buffer)
one_writing_out sheet buffer = one_answer _ _ buffer

-- ---- Demand 1: a job refuses by a number of the book exactly where that refusal comes first in the job's order, and no lent buffer is
-- changed then

-- Reading is refused by the first of 1 to 9 that applies.
pub read_refuses : (r : ReadCall) → Refuses Err (read_order r) r.buffer r.said r.held
unfolding read_answer
read_refuses r = refuses read_shown_lem (read_order r) (sheet_for r) r.promised

-- Checking is refused by the first of 1 to 8 and 10 that applies.
pub check_refuses : (k : CheckCall) → Refuses Err (check_order k) k.buffer k.said k.held
unfolding check_answer
check_refuses k = refuses check_shown_lem (check_order k) (list_of k.comes k.area) k.promised

-- Writing is refused by the first of 20 to 25 that applies.
pub write_refuses : (w : WriteCall) → Refuses Err (write_order w) w.buffer w.said w.held
unfolding write_answer
write_refuses w =
    let area : Written = record { kind = kind_in w.sheet; flags = flags_in w.sheet; area = area_in w.sheet } in
    refuses write_shown_lem (write_order w) area w.promised

-- ---- Demand 2: what is framed rightly is read, and nothing else; what comes of it is the sheet that is defined; both ways back

-- What is read is its sheet: it stands at the buffer's start, and nothing else changed.
pub the_sheet_defined :
    (r : ReadCall) → IsRead r → Gives (Ok (length (sheet_for r))) (sheet_for r) r.buffer r.said r.held
the_sheet_defined r i = let x = was_read r i in gives r.promised (ap reading_of x.answer) x.answer x.room

-- With a kind, flags and a length that are taken, and room for the sheet, being read and being well framed are one.
pub read_when_framed : (r : ReadCall) → Given r → IsRead r ↔ WellFramed r.area
read_when_framed r g = (there, back)
  where
    there : IsRead r → WellFramed r.area
    there i = (framed_exactly r.area r.octets).0 (clear r.kind r.flags r.area (was_read r i).readable.accepted).sound

    back : WellFramed r.area → IsRead r
    back f =
        let sound = (framed_exactly r.area r.octets).1 f in
        let clear_is : Clear r.kind r.flags r.area =
        record { kind_ok = g.kind_ok; flags_ok = g.flags_ok; short = g.short; sound = sound } in
        let clean = clear_read r.kind r.flags r.area clear_is in
        let answer = (read_exactly r.kind r.flags r.area (length r.buffer) (sheet_for r)).1 (clean, g.room, refl) in
        record { size = length (sheet_for r); is = r.promised.says ∙ ap reading_of answer }

-- Where there is room, writing what was read gives back area, kind and flags.
pub there_and_back :
    (r : ReadCall) (i : IsRead r) (w : WriteCall) → WritesBack r i w
    → Gives (Ok (record { length = length r.area; kind = r.kind; flags = r.flags })) r.area w.buffer w.said w.held
unfolding area_answer
there_and_back r i w b =
    let x = was_read r i in
    let answer : write_answer w.sheet (length w.buffer) ≡ given (record { kind = r.kind; flags = r.flags; area = r.area }) =
    ap (λ (s : List ℕ). write_answer s (length w.buffer)) (b.made ∙ x.sheet_is)
    ∙ written_back r.kind r.flags r.area (length w.buffer) x.readable b.room in
    gives w.promised (ap writing_of answer) (ap area_answer answer) b.room

-- "reading the result gives that sheet"
pub back_and_there :
    (w : WriteCall) (i : IsWritten w) (r : ReadCall) → ReadsBack w i r
    → Gives (Ok (length w.sheet)) w.sheet r.buffer r.said r.held
back_and_there w i r b =
    let x = was_written w i in
    let has : sheet_for r ≡ w.sheet = rw (b.made, b.kind_is, b.flags_is) x.has in
    let clean : area_refusal r.kind r.flags r.area ≡ none = rw (b.made, b.kind_is, b.flags_is) x.readable.accepted in
    let room : length (sheet_for r) ≤ length r.buffer = omega (arith, ap length has, b.room) in
    let answer = (read_exactly r.kind r.flags r.area (length r.buffer) w.sheet).1 (clean, room, sym has) in
    gives r.promised (ap reading_of answer) answer b.room

-- "exactly when some readable area": whatever the room, no other sheet is written;
pub written_has_area : (w : WriteCall) → IsWritten w → Writable (version_in w.sheet) w.sheet
written_has_area w i =
    let x = was_written w i in
    record { kind = i.kind; flags = i.flags; area = take i.size w.held; readable = x.readable; has = sym x.has }

-- and it is, given room for that area.
pub written_when_some_area_has_it :
    (w : WriteCall) (a : Writable (version_in w.sheet) w.sheet) → length a.area ≤ length w.buffer → IsWritten w
unfolding write_answer
written_when_some_area_has_it w a room =
    let s = sheet_goes_back (version_in w.sheet) a.kind a.flags a.area a.readable in
    let clean : judged w.sheet ≡ _ = (written_exactly w.sheet w.octets).1 a in
    let area_is : area_in w.sheet ≡ a.area = ap area_in a.has ∙ s.area_is in
    let fits = le-ltb (length w.buffer) (length (area_in w.sheet)) (omega (arith, ap length area_is, room)) in
    record {
      size = length (area_in w.sheet);
      kind = kind_in w.sheet;
      flags = flags_in w.sheet;
      is = w.promised.says ∙ rw (clean, fits);
    }

-- Two areas that were read into one sheet are the same, and so are their kinds and flags.
pub one_sheet_one_area :
    (r : ReadCall) (i : IsRead r) (r' : ReadCall) (i' : IsRead r') → take i.size r.held ≡ take i'.size r'.held
    → (r.kind ≡ r'.kind) × (r.flags ≡ r'.flags) × (r.area ≡ r'.area)
one_sheet_one_area r i r' i' e =
    let x = was_read r i in
    let x' = was_read r' i' in
    one_area current _ _ r.area _ _ r'.area x.readable x'.readable (sym x.sheet_is ∙ e ∙ x'.sheet_is)

-- ---- Demand 3: the list rises, each breach has its one entry in it, and it has no other entry

-- Every area has a list of exactly its breaches, in rising order,
pub some_list : (k : CheckCall) → ListsBreaches k (list_of k.comes k.area)
some_list k = list_lists k.comes k.area k.octets

-- and no other list is one.
pub no_other_list : (k : CheckCall) (l m : List ℕ) → ListsBreaches k l → ListsBreaches k m → l ≡ m
no_other_list k l m p q = one_list _ l m p q

-- Where the area is readable, kind and flags are taken and there is room for such a list, the answer is that list.
pub list_of_breaches :
    (k : CheckCall) → ReadableCall k → (l : List ℕ) → ListsBreaches k l → length l ≤ length k.buffer
    → Gives (Ok (length l)) l k.buffer k.said k.held
list_of_breaches k a l lists room =
    let answer = check_given k.comes k.area (length k.buffer) l a lists room in
    gives k.promised (ap checking_of answer) answer room

-- Two different breaches have different entries: an entry in the list tells one place, one rule and one number.
pub entry_tells_breach : (k : CheckCall) (l : List ℕ) → ListsBreaches k l → (e : ℕ) → Among e l → Tells e
entry_tells_breach k l lists e m = area_breach_tells k.comes k.area e k.octets ((lists.exact e).0 m)

pub entry_tells_one : (e : ℕ) (t u : Tells e) → (t.place ≡ u.place) × (t.rule ≡ u.rule) × (t.number ≡ u.number)
entry_tells_one = one_telling

-- ---- Request 1: "Make 40 mandatory in kinds" 4 and 5

-- In the list of an ON or OFF the entry of rule 6 for a number that can break a rule stands exactly where the number is 40 and no
-- attribute carries it: no other is demanded, and a 40 is there whatever its value.
pub status_demanded :
    (k : CheckCall) → (k.comes.kind ≡ 4) ⊎ (k.comes.kind ≡ 5) → (l : List ℕ) → ListsBreaches k l → (n : ℕ) → T (can_break n)
    → Among (entry (length k.area) 6 n) l ↔ ((n ≡ 40) × Absent 40 (attributes (walk k.area)))
status_demanded k kind l lists n can =
    let e = entry (length k.area) 6 n in
    let exactly = lacks_exactly k.comes k.area n k.octets can in
    let alone = status_alone k.comes kind n in (
      λ m.
          let b = exactly.0 ((lists.exact e).0 m) in
          let q = alone.0 b.0 in
          (q, rw q at b.1),
      λ b. (lists.exact e).1 (exactly.1 (alone.1 b.0, rw b.0 b.1)),
    )
