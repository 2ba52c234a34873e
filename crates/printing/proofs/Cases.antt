-- What is printed, computed. Assumes nothing.
use mathlib.Core.Path.{◌≡◌, refl}
use mathlib.Core.List.{List, [], ◌∷◌}
use Prim.Native.Nat.{ℕ}
use Rattle.meaning.specs.Seen.{area_a, sheet_a}
use Rattle.meaning.proofs.Computing.{computing}
use Rattle.lines.specs.Lines.{decimal_in, decimal, entry_digits, entry_with, entries_with, refusal_line, second_told}
use Rattle.printing.specs.Printed.{refusal_told, shown_as, list_line, read_shown, check_shown}
use Rattle.printing.specs.Printed.{write_shown, record_line, check_printed, read_printed, write_printed}

-- What `gir_check` prints for P3: its four lines.
pub prints_p3 :
    check_printed (3 ∷ 0 ∷ area_a) 21 6126
    ≡ 48 ∷ 49 ∷ 51 ∷ 54 ∷ 48 ∷ 56 ∷ 48 ∷ 48 ∷ 10
    ∷ 48 ∷ 49 ∷ 51 ∷ 54 ∷ 49 ∷ 69 ∷ 48 ∷ 48 ∷ 10
    ∷ 48 ∷ 49 ∷ 51 ∷ 54 ∷ 50 ∷ 56 ∷ 48 ∷ 48 ∷ 10
    ∷ 48 ∷ 49 ∷ 51 ∷ 54 ∷ 50 ∷ 67 ∷ 48 ∷ 48 ∷ 10 ∷ []
unfolding computing check_shown shown_as entries_with entry_with entry_digits
prints_p3 = refl

-- P1: the sheet as it is, and its way back
pub prints_p1 : read_printed (4 ∷ 0 ∷ area_a) 21 8161 ≡ sheet_a
unfolding computing read_shown shown_as
prints_p1 = refl

pub writes_p1 : write_printed sheet_a 24 4076 ≡ 4 ∷ 0 ∷ area_a
unfolding computing write_shown shown_as
writes_p1 = refl

-- P6, and an input of one octet
pub prints_p6 : check_printed (1 ∷ 0 ∷ 4 ∷ []) 3 6126 ≡ 114 ∷ 101 ∷ 102 ∷ 117 ∷ 115 ∷ 101 ∷ 100 ∷ 32 ∷ 52 ∷ 32 ∷ 48 ∷ 10 ∷ []
unfolding computing check_shown shown_as refusal_told refusal_line second_told decimal decimal_in
prints_p6 = refl

pub prints_short : read_printed (1 ∷ []) 1 8161 ≡ 115 ∷ 104 ∷ 111 ∷ 114 ∷ 116 ∷ 10 ∷ []
unfolding read_shown
prints_short = refl

-- an ON with a NAS-IP-Address and its status, which breaks nothing
abbrev clean_on : List ℕ
clean_on = 4 ∷ 0 ∷ 4 ∷ 6 ∷ 10 ∷ 0 ∷ 0 ∷ 1 ∷ 40 ∷ 6 ∷ 0 ∷ 0 ∷ 0 ∷ 7 ∷ []

-- an empty list: nothing by the program, an empty line in a batch
pub prints_nothing : check_printed clean_on 14 6126 ≡ []
unfolding computing check_shown shown_as entries_with
prints_nothing = refl

pub line_empty : record_line 67 clean_on 14 6126 ≡ 10 ∷ []
unfolding computing record_line check_shown shown_as list_line
line_empty = refl
