-- The buffers that are lent for what a job makes: how much of them is used, and what they hold then. Assumes nothing.
use Rattle.std.specs.Prelude.{◌≡◌, ℕ, min, cond, List, eqb, ltb, length}
use Rattle.meaning.specs.Jobs.{Context}
use Rattle.meaning.specs.Answers.{after, Promise, read_answer, check_answer, write_answer, area_answer}
use Rattle.desk.specs.Answers.{Reading, Checking, Writing, reading_of, checking_of, writing_of}
use Rattle.printing.specs.Printed.{is_short, read_of, check_of, job_read, job_check, job_write, record_line}
use Rattle.lines.specs.Lines.{StartLaid}

-- ---- A job with no more room than is asked for, of a buffer that is lent

abbrev pub ReadWithin : (kind flags room : ℕ) (area buffer : List ℕ) (said : Reading) (held : List ℕ) → Type 0
ReadWithin kind flags room area d said held =
    Promise (reading_of (read_answer kind flags area room)) (read_answer kind flags area room) d said held

abbrev pub CheckedWithin : Context → (room : ℕ) (area buffer : List ℕ) (said : Checking) (held : List ℕ) → Type 0
CheckedWithin c room area d said held = Promise (checking_of (check_answer c area room)) (check_answer c area room) d said held

abbrev pub WroteWithin : (room : ℕ) (sheet buffer : List ℕ) (said : Writing) (held : List ℕ) → Type 0
WroteWithin room sheet d said held = Promise (writing_of (write_answer sheet room)) (area_answer (write_answer sheet room)) d said held

-- ---- What the buffer holds then, of what was given

unfoldable pub sheet_after : (given : List ℕ) (room : ℕ) (buffer : List ℕ) → List ℕ
sheet_after l room d = cond (is_short l) d (after (read_of l room) d)

unfoldable pub list_after : (given : List ℕ) (room : ℕ) (buffer : List ℕ) → List ℕ
list_after l room d = cond (is_short l) d (after (check_of l room) d)

unfoldable pub area_after : (sheet : List ℕ) (all room : ℕ) (buffer : List ℕ) → List ℕ
area_after s all room d = cond (ltb (length s) all) d (after (area_answer (write_answer s room)) d)

-- ---- The same of a record: octets are lent for sheets and areas, entries for lists

-- the room that is used: what the record gives, and no more than is lent
unfoldable pub room_of : (job room octets entries : ℕ) → ℕ
room_of job room octets entries = min room (cond (eqb job job_check) entries octets)

unfoldable pub octets_after : (job : ℕ) (payload : List ℕ) (all room : ℕ) (buffer : List ℕ) → List ℕ
octets_after job l all room d =
    cond (eqb job job_read) (sheet_after l room d) (cond (eqb job job_check) d (cond (eqb job job_write) (area_after l all room d) d))

unfoldable pub entries_after : (job : ℕ) (payload : List ℕ) (room : ℕ) (buffer : List ℕ) → List ℕ
entries_after job l room d = cond (eqb job job_check) (list_after l room d) d

-- what is laid of a record's line, and what the two lent buffers hold then
pub record Answered (job : ℕ) (l : List ℕ) (all room : ℕ) (d e o : List ℕ) (n : ℕ) (out held entries : List ℕ) : Type 0 where
  pub laid : StartLaid (record_line job l all (room_of job room (length d) (length e))) o n out
  pub octets : held ≡ octets_after job l all (room_of job room (length d) (length e)) d
  pub list : entries ≡ entries_after job l (room_of job room (length d) (length e)) e
