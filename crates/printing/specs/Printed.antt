-- What the programs print, of what they were given (the book, "What the programs take and print"), and the line of each record of a batch.
-- A program that is given more than decides the answer keeps a start of it, and knows how many octets there were. Assumes nothing.
use Rattle.std.specs.Prelude.{ℕ, ◌*◌, Bool, cond, ◌||◌, List, [], ◌∷◌, ◌++◌, eqb, ltb, length, drop, get_or}
use Rattle.meaning.specs.Octets.{unpack, text}
use Rattle.meaning.specs.Jobs.{comes}
use Rattle.meaning.specs.Refusals.{Refusal, none, refusal}
use Rattle.meaning.specs.Answers.{Answer, given, refused, read_answer, check_answer, Written, write_answer}
use Rattle.lines.specs.Lines.{decimal, space, line_feed, refusal_line, second_told, entry_with, entries_with}
use Rattle.writing.specs.Starts.{start_refusal}

-- ---- What was given

-- "a kind octet", then the flags and the area
abbrev pub kind_given : List ℕ → ℕ
kind_given l = get_or l 0 0

abbrev pub flags_given : List ℕ → ℕ
flags_given l = get_or l 1 0

abbrev pub area_given : List ℕ → List ℕ
area_given l = drop 2 l

-- "Under two octets"
abbrev pub is_short : List ℕ → Bool
is_short l = ltb (length l) 2

-- what reading, checking and writing answer to it, with so much room
abbrev pub read_of : (given : List ℕ) (room : ℕ) → Answer (List ℕ)
read_of l room = read_answer (kind_given l) (flags_given l) (area_given l) room

abbrev pub check_of : (given : List ℕ) (room : ℕ) → Answer (List ℕ)
check_of l room = check_answer (comes (kind_given l) (flags_given l)) (area_given l) room

-- ---- How it is shown

-- "short", and the line's end
abbrev pub short_line : List ℕ
short_line = 115 ∷ 104 ∷ 111 ∷ 114 ∷ 116 ∷ line_feed ∷ []

-- the line of a refusal of an input that has so many octets in all
unfoldable pub refusal_told : (all number second : ℕ) → List ℕ
refusal_told all n s = refusal_line n (second_told n s all)

-- what was asked for, as it is shown, or the line of a refusal
unfoldable pub shown_as : {A : Type 0} (show : A → List ℕ) (all : ℕ) → Answer A → List ℕ
shown_as show all (given a) = show a
shown_as show all (refused n s) = refusal_told all n s

-- octets in hexadecimal, to the line's end
unfoldable pub hex_line : List ℕ → List ℕ
hex_line s = text (unpack (2 * length s) s) ++ (line_feed ∷ [])

-- a line for each entry; "An empty list prints nothing"
abbrev pub list_lines : List ℕ → List ℕ
list_lines = entries_with line_feed

-- entries on one line, one space between
unfoldable pub list_line : List ℕ → List ℕ
list_line [] = line_feed ∷ []
list_line (e ∷ []) = entry_with line_feed e
list_line (e ∷ f ∷ l) = entry_with space e ++ list_line (f ∷ l)

-- kind octet, flags octet and area
abbrev pub area_octets : Written → List ℕ
area_octets w = w.kind ∷ w.flags ∷ w.area

-- kind and flags in decimal, with a space behind each
unfoldable pub kind_flags : (kind flags : ℕ) → List ℕ
kind_flags k f = decimal k ++ ((space ∷ []) ++ (decimal f ++ (space ∷ [])))

-- the same and the area on one line
unfoldable pub area_line : Written → List ℕ
area_line w = kind_flags w.kind w.flags ++ hex_line w.area

-- ---- What is printed

-- of kind, flags and area: "Under two octets it prints "short""
unfoldable pub read_shown : (show : List ℕ → List ℕ) (given : List ℕ) (all room : ℕ) → List ℕ
read_shown show l all room = cond (is_short l) short_line (shown_as show all (read_of l room))

unfoldable pub check_shown : (show : List ℕ → List ℕ) (given : List ℕ) (all room : ℕ) → List ℕ
check_shown show l all room = cond (is_short l) short_line (shown_as show all (check_of l room))

-- the line of a sheet that is refused by its kept octets, or what is said where it hangs on the rest
abbrev pub start_shown : (pending : List ℕ) → Refusal → List ℕ
start_shown pending none = pending
start_shown pending (refusal n s) = refusal_line n s

-- of a sheet: as it is written, if it was kept whole; else by what its kept octets decide
unfoldable pub write_shown : (show : Written → List ℕ) (pending : List ℕ) (sheet : List ℕ) (all room : ℕ) → List ℕ
write_shown show pending s all room = cond (ltb (length s) all) (start_shown pending (start_refusal s)) (shown_as show all (write_answer s room))

-- ---- The programs

-- the read program: the sheet as it is
abbrev pub read_printed : (given : List ℕ) (all room : ℕ) → List ℕ
read_printed = read_shown (λ s. s)

-- the check program: "each entry .. on a line"
abbrev pub check_printed : (given : List ℕ) (all room : ℕ) → List ℕ
check_printed = check_shown list_lines

-- the write program: kind octet, flags octet, area; nothing where it hangs on the rest
abbrev pub write_printed : (sheet : List ℕ) (all room : ℕ) → List ℕ
write_printed = write_shown area_octets []

-- ---- The lines of a batch

-- "octets, not judged", with a space before it
abbrev pub not_judged : List ℕ
not_judged = 32 ∷ 111 ∷ 99 ∷ 116 ∷ 101 ∷ 116 ∷ 115 ∷ 44 ∷ 32 ∷ 110 ∷ 111 ∷ 116 ∷ 32 ∷ 106 ∷ 117 ∷ 100 ∷ 103 ∷ 101 ∷ 100 ∷ line_feed ∷ []

-- "over N octets, not judged", of a sheet of which N were kept
unfoldable pub open_line : (kept : ℕ) → List ℕ
open_line n = (111 ∷ 118 ∷ 101 ∷ 114 ∷ 32 ∷ []) ++ (decimal n ++ not_judged)

-- R, C, W
abbrev pub job_read : ℕ
job_read = 82

abbrev pub job_check : ℕ
job_check = 67

abbrev pub job_write : ℕ
job_write = 87

abbrev pub is_job : ℕ → Bool
is_job job = eqb job job_read || (eqb job job_check || eqb job job_write)

-- the line of a record by its job, payload and room; none of a job that is not there
unfoldable pub record_line : (job : ℕ) (payload : List ℕ) (all room : ℕ) → List ℕ
record_line job l all room =
    cond (eqb job job_read) (read_shown hex_line l all room)
    (cond (eqb job job_check) (check_shown list_line l all room)
    (cond (eqb job job_write) (write_shown area_line (open_line (length l)) l all room) []))
