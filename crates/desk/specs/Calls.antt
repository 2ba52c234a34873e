-- The words of the demands: a call of each job, what it is for a call to read, to write, to refuse and to give what was asked for, and
-- what the demands suppose of a call. Assumes nothing.
use Rattle.std.specs.Prelude.{ℕ, ◌≤◌, ◌≡◌, ◌↔◌, true, List, length, take, Ok}
use Rattle.meaning.specs.Octets.{Octets}
use Rattle.meaning.specs.Jobs.{is_kind, are_flags, Context}
use Rattle.meaning.specs.Framing.{walk, attributes}
use Rattle.meaning.specs.Refusals as book
use Rattle.meaning.specs.Sheet.{sheet_of, Readable, area_in, judged}
use Rattle.meaning.specs.Breaches.{Breach, Lists}
use Rattle.meaning.specs.Listing.{list_of}
use Rattle.meaning.specs.Answers.{LaidOver}
use Rattle.area.specs.declared.Refusal.{Refusal}
use Rattle.desk.specs.Answers.{Reading, Checking, Writing, Read, Checked, Wrote}

-- ---- The calls: what is handed over, what is said and what the lent buffer holds then. Every `&[u8]` that is handed over is octets.

pub record ReadCall : Type 0 where
  pub kind : ℕ
  pub flags : ℕ
  pub area : List ℕ
  pub octets : Octets area
  pub buffer : List ℕ
  pub said : Reading
  pub held : List ℕ
  pub promised : Read kind flags area buffer said held

pub record CheckCall : Type 0 where
  pub comes : Context
  pub area : List ℕ
  pub octets : Octets area
  pub buffer : List ℕ
  pub said : Checking
  pub held : List ℕ
  pub promised : Checked comes area buffer said held

pub record WriteCall : Type 0 where
  pub sheet : List ℕ
  pub octets : Octets sheet
  pub buffer : List ℕ
  pub said : Writing
  pub held : List ℕ
  pub promised : Wrote sheet buffer said held

-- the sheet of what a call hands over
abbrev pub sheet_for : ReadCall → List ℕ
sheet_for r = sheet_of r.kind r.flags r.area

-- a promise for one input permits one answer and one content of the buffer
abbrev pub OneAnswer : (X : Type 0) → (X → List ℕ → Type 0) → Type 0
OneAnswer X Permits =
    (said said' : X) (held held' : List ℕ) → Permits said held → Permits said' held' → (said ≡ said') × (held ≡ held')

-- ---- Answers

-- the first refusal that applies to a call, each job's by its order in the book
abbrev pub read_order : ReadCall → book.Refusal
read_order r = book.area_order r.kind r.flags r.area 9 (length (sheet_for r)) (length r.buffer)

abbrev pub check_order : CheckCall → book.Refusal
check_order k =
    book.area_order k.comes.kind k.comes.flags k.area 10 (length (list_of k.comes k.area)) (length k.buffer)

abbrev pub write_order : WriteCall → book.Refusal
write_order w = book.first (judged w.sheet) (book.too_short 25 (length (area_in w.sheet)) (length w.buffer))

-- a refusal of the desk, by the book's number and second number
abbrev pub by : (number second : ℕ) → Refusal
by n s = record { number = n; second = s }

-- refused exactly by the first that applies, and then the buffer is as it was
pub record Refuses {X : Type 0} (case : Refusal → X) (order : book.Refusal) (buffer : List ℕ) (said : X) (held : List ℕ) : Type 0 where
  pub exactly : (n s : ℕ) → (said ≡ case (by n s)) ↔ (order ≡ book.refusal n s)
  pub unchanged : (n s : ℕ) → said ≡ case (by n s) → held ≡ buffer

-- what is given stands at the buffer's start, the rest is as it was, and the answer says how much it is
pub record Gives {X : Type 0} (answer : X) (s buffer : List ℕ) (said : X) (held : List ℕ) : Type 0 where
  pub says : said ≡ answer
  pub laid : LaidOver s buffer held

-- an area is read: some sheet is answered
pub record IsRead (r : ReadCall) : Type 0 where
  pub size : ℕ
  pub is : r.said ≡ Ok size

-- a sheet is written: some area is answered
pub record IsWritten (w : WriteCall) : Type 0 where
  pub size : ℕ
  pub kind : ℕ
  pub flags : ℕ
  pub is : w.said ≡ Ok (record { length = size; kind = kind; flags = flags })

-- ---- What the demands suppose

-- what demand 2 takes as given: kind, flags and length are accepted, and the sheet has room
pub record Given (r : ReadCall) : Type 0 where
  pub kind_ok : is_kind r.kind ≡ true
  pub flags_ok : are_flags r.flags ≡ true
  pub short : length r.area ≤ 4076
  pub room : length (sheet_for r) ≤ length r.buffer

-- "writing a sheet made by reading", with room: w writes what r read
pub record WritesBack (r : ReadCall) (i : IsRead r) (w : WriteCall) : Type 0 where
  pub made : w.sheet ≡ take i.size r.held
  pub room : length r.area ≤ length w.buffer

-- "reading the result": r reads what w wrote
pub record ReadsBack (w : WriteCall) (i : IsWritten w) (r : ReadCall) : Type 0 where
  pub made : r.area ≡ take i.size w.held
  pub kind_is : r.kind ≡ i.kind
  pub flags_is : r.flags ≡ i.flags
  pub room : length w.sheet ≤ length r.buffer

-- a check of a "readable area, accepted kind and flags"
abbrev pub ReadableCall : CheckCall → Type 0
ReadableCall k = Readable k.comes.kind k.comes.flags k.area

-- the lists that demand 3 speaks of: rising, and with exactly the entries of the breaches
abbrev pub ListsBreaches : CheckCall → List ℕ → Type 0
ListsBreaches k l = Lists l (Breach k.comes (length k.area) (attributes (walk k.area)))
