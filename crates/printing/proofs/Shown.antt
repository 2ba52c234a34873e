-- What is printed of an answer, by its case. Assumes nothing.
use mathlib.Core.Path.{◌≡◌, refl, sym, ap, subst, ◌∙◌}
use mathlib.Core.List.{List, []}
use Prim.Native.Nat.{ℕ, ◌-◌, ◌<◌, ◌≤◌, min}
use native.Mathlib.Omega.{arith}
use borrow.Author.Tests.{ne_eqb, lt-ltb, le-ltb}
use lib.ListN.{length, take, drop, get_or, length-drop}
use lib.Seq.{take_at, take_all}
use Rattle.meaning.specs.Jobs.{comes}
use Rattle.meaning.specs.Refusals as book
use Rattle.meaning.specs.Answers.{Answer, given, refused, over, after, Written, write_answer, area_answer}
use Rattle.octets.specs.Parts.{part_of}
use Rattle.lines.specs.Lines.{StartLaid, text_of, refusal_line}
use Rattle.lines.specs.declared.Text.{Text}
use Rattle.std.specs.Prelude.{Option, None, Some, Ok, Err}
use Rattle.area.specs.declared.Refusal.{Refusal}
use Rattle.writing.specs.declared.Written as written
use Rattle.desk.specs.Answers.{Reading, Checking, Writing, reading_of, checking_of, writing_of}
use Rattle.writing.specs.Starts.{start_refusal}
use Rattle.writing.specs.Answers.{start_said}
use Rattle.printing.specs.Printed.{read_of, check_of, short_line, refusal_told, shown_as, read_shown, check_shown}
use Rattle.printing.specs.Printed.{start_shown, write_shown}
use Rattle.printing.specs.Printed.{read_printed, hex_line, list_line, area_line, open_line, record_line}
use Rattle.printing.specs.Lent.{ReadWithin, CheckedWithin, WroteWithin, sheet_after, list_after, area_after}
use Rattle.printing.specs.Lent.{room_of, octets_after, entries_after, Answered}
use Rattle.lines.proofs.Listing.{start_laid}
use Rattle.octets.proofs.Overs.{over_none}
use Rattle.printing.proofs.Lending.{read_fits}
use Rattle.printing.proofs.Pieces.{start_as, put_line}

-- the octets at the start of what was laid
laid_part : (s d : List ℕ) (n : ℕ) → n ≡ length s → part_of (over s d) 0 n ≡ s
unfolding part_of over
laid_part s d n e = take_at s (drop (length s) d) n (sym e)

first_laid : (s d : List ℕ) (n : ℕ) → n ≡ length s → take n (over s d) ≡ s
unfolding over
first_laid s d n e = take_at s (drop (length s) d) n (sym e)

-- what stands behind kind and flags, as a part that is handed on
pub rest_given : (l : List ℕ) → take (length l - 2) (drop 2 l) ≡ drop 2 l
rest_given l = take_all (length l - 2) (drop 2 l) (omega (arith, length-drop 2 l))

-- ---- Read

module _ (show : List ℕ → List ℕ) (l : List ℕ) (all room : ℕ) (d : List ℕ) where
  pub read_short : (o out : List ℕ) (n : ℕ) → length l < 2 → StartLaid short_line o n out
      → StartLaid (read_shown show l all room) o n out × (d ≡ sheet_after l room d)
  unfolding read_shown sheet_after
  read_short o out n h p = rw (lt-ltb (length l) 2 h) (p, refl)

  module _ (long : 2 ≤ length l) {kind flags : ℕ} {area : List ℕ} (k : kind ≡ get_or l 0 0) (f : flags ≡ get_or l 1 0) (a : area ≡ drop 2 l)
      {said : Reading} {held : List ℕ} (p : ReadWithin kind flags room area d said held) where
    promised : ReadWithin (get_or l 0 0) (get_or l 1 0) room (drop 2 l) d said held
    promised = rw (k, f, a) at p

    pub read_given : {m : ℕ} → said ≡ Ok m → {part : List ℕ} → part ≡ part_of held 0 m → {o out : List ℕ} {n : ℕ}
        → StartLaid (show part) o n out → StartLaid (read_shown show l all room) o n out × (held ≡ sheet_after l room d)
    unfolding read_shown sheet_after shown_as after
    read_given {m} e {part} q {o} {out} {n} s = rw (le-ltb (length l) 2 long) (go (read_of l room) refl, promised.holds)
      where
        go : (x : Answer (List ℕ)) → read_of l room ≡ x → StartLaid (shown_as show all x) o n out
        go (given t) x =
            let g : Ok m ≡ Ok (length t) = sym e ∙ promised.says ∙ ap reading_of x in
            let size : m ≡ length t = cc in
            start_as (show part) (show t) o out n (ap show (q ∙ ap (λ (h : List ℕ). part_of h 0 m) (promised.holds ∙ rw x) ∙ laid_part t d m size)) s
        go (refused i j) x = absurd (let g = sym e ∙ promised.says ∙ ap reading_of x in let z : ◌≡◌ {A = ℕ} 0 1 = cc in omega arith)

    pub read_refused : {r : Refusal} → said ≡ Err r → {o out : List ℕ} {n : ℕ}
        → StartLaid (refusal_told all r.number r.second) o n out
        → StartLaid (read_shown show l all room) o n out × (held ≡ sheet_after l room d)
    unfolding read_shown sheet_after shown_as
    read_refused {r} e {o} {out} {n} s = rw (le-ltb (length l) 2 long) (go (read_of l room) refl, promised.holds)
      where
        go : (x : Answer (List ℕ)) → read_of l room ≡ x → StartLaid (shown_as show all x) o n out
        go (given t) x = absurd (let g = sym e ∙ promised.says ∙ ap reading_of x in let z : ◌≡◌ {A = ℕ} 0 1 = cc in omega arith)
        go (refused i j) x =
            let g : Err r ≡ Err (record { number = i; second = j }) = sym e ∙ promised.says ∙ ap reading_of x in
            let same : r ≡ record { number = i; second = j } = cc in
            start_as (refusal_told all r.number r.second) (refusal_told all i j) o out n (ap (λ (y : Refusal). refusal_told all y.number y.second) same) s

-- ---- Check

module _ (show : List ℕ → List ℕ) (l : List ℕ) (all room : ℕ) (d : List ℕ) where
  pub check_short : (o out : List ℕ) (n : ℕ) → length l < 2 → StartLaid short_line o n out
      → StartLaid (check_shown show l all room) o n out × (d ≡ list_after l room d)
  unfolding check_shown list_after
  check_short o out n h p = rw (lt-ltb (length l) 2 h) (p, refl)

  module _ (long : 2 ≤ length l) {kind flags : ℕ} {area : List ℕ} (k : kind ≡ get_or l 0 0) (f : flags ≡ get_or l 1 0) (a : area ≡ drop 2 l)
      {said : Checking} {held : List ℕ} (p : CheckedWithin (comes kind flags) room area d said held) where
    promised_list : CheckedWithin (comes (get_or l 0 0) (get_or l 1 0)) room (drop 2 l) d said held
    promised_list = rw (k, f, a) at p

    pub check_given : {m : ℕ} → said ≡ Ok m → {part : List ℕ} → part ≡ take m held → {o out : List ℕ} {n : ℕ}
        → StartLaid (show part) o n out → StartLaid (check_shown show l all room) o n out × (held ≡ list_after l room d)
    unfolding check_shown list_after shown_as after
    check_given {m} e {part} q {o} {out} {n} s = rw (le-ltb (length l) 2 long) (go (check_of l room) refl, promised_list.holds)
      where
        go : (x : Answer (List ℕ)) → check_of l room ≡ x → StartLaid (shown_as show all x) o n out
        go (given t) x =
            let g : Ok m ≡ Ok (length t) = sym e ∙ promised_list.says ∙ ap checking_of x in
            let size : m ≡ length t = cc in
            start_as (show part) (show t) o out n (ap show (q ∙ ap (λ (h : List ℕ). take m h) (promised_list.holds ∙ rw x) ∙ first_laid t d m size)) s
        go (refused i j) x = absurd (let g = sym e ∙ promised_list.says ∙ ap checking_of x in let z : ◌≡◌ {A = ℕ} 0 1 = cc in omega arith)

    pub check_refused : {r : Refusal} → said ≡ Err r → {o out : List ℕ} {n : ℕ}
        → StartLaid (refusal_told all r.number r.second) o n out
        → StartLaid (check_shown show l all room) o n out × (held ≡ list_after l room d)
    unfolding check_shown list_after shown_as
    check_refused {r} e {o} {out} {n} s = rw (le-ltb (length l) 2 long) (go (check_of l room) refl, promised_list.holds)
      where
        go : (x : Answer (List ℕ)) → check_of l room ≡ x → StartLaid (shown_as show all x) o n out
        go (given t) x = absurd (let g = sym e ∙ promised_list.says ∙ ap checking_of x in let z : ◌≡◌ {A = ℕ} 0 1 = cc in omega arith)
        go (refused i j) x =
            let g : Err r ≡ Err (record { number = i; second = j }) = sym e ∙ promised_list.says ∙ ap checking_of x in
            let same : r ≡ record { number = i; second = j } = cc in
            start_as (refusal_told all r.number r.second) (refusal_told all i j) o out n (ap (λ (y : Refusal). refusal_told all y.number y.second) same) s

-- ---- Write

module _ (show : Written → List ℕ) (pending l : List ℕ) (all room : ℕ) (d : List ℕ) where
  -- by the kept octets
  pub write_cut : {o out : List ℕ} {n : ℕ} → length l < all → StartLaid (start_shown pending (start_refusal l)) o n out
      → StartLaid (write_shown show pending l all room) o n out × (d ≡ area_after l all room d)
  unfolding write_shown area_after
  write_cut h p = rw (lt-ltb (length l) all h) (p, refl)

  module _ (whole : all ≤ length l) {said : Writing} {held : List ℕ} (p : WroteWithin room l d said held) where
    pub write_given : {v : written.Written} → said ≡ Ok v → {part : List ℕ} → part ≡ part_of held 0 v.length → {o out : List ℕ} {n : ℕ}
        → StartLaid (show (record { kind = v.kind; flags = v.flags; area = part })) o n out
        → StartLaid (write_shown show pending l all room) o n out × (held ≡ area_after l all room d)
    unfolding write_shown area_after shown_as after area_answer
    write_given {v} e {part} q {o} {out} {n} s = rw (le-ltb (length l) all whole) (go (write_answer l room) refl, p.holds)
      where
        go : (x : Answer Written) → write_answer l room ≡ x → StartLaid (shown_as show all x) o n out
        go (given w) x =
            let g : Ok v ≡ Ok (record { length = length w.area; kind = w.kind; flags = w.flags }) = sym e ∙ p.says ∙ ap writing_of x in
            let is : v ≡ record { length = length w.area; kind = w.kind; flags = w.flags } = cc in
            let size : v.length ≡ length w.area = ap (λ (y : written.Written). y.length) is in
            let kind_is : v.kind ≡ w.kind = ap (λ (y : written.Written). y.kind) is in
            let flags_is : v.flags ≡ w.flags = ap (λ (y : written.Written). y.flags) is in
            let part_is : part ≡ w.area = q ∙ ap (λ (h : List ℕ). part_of h 0 v.length) (p.holds ∙ rw x) ∙ laid_part w.area d v.length size in
            start_as (show (record { kind = v.kind; flags = v.flags; area = part })) (show w) o out n
            (ap show (λ i. record { kind = kind_is i; flags = flags_is i; area = part_is i })) s
        go (refused i j) x = absurd (let g = sym e ∙ p.says ∙ ap writing_of x in let z : ◌≡◌ {A = ℕ} 0 1 = cc in omega arith)

    pub write_refused : {r : Refusal} → said ≡ Err r → {o out : List ℕ} {n : ℕ}
        → StartLaid (refusal_told all r.number r.second) o n out
        → StartLaid (write_shown show pending l all room) o n out × (held ≡ area_after l all room d)
    unfolding write_shown area_after shown_as
    write_refused {r} e {o} {out} {n} s = rw (le-ltb (length l) all whole) (go (write_answer l room) refl, p.holds)
      where
        go : (x : Answer Written) → write_answer l room ≡ x → StartLaid (shown_as show all x) o n out
        go (given w) x = absurd (let g = sym e ∙ p.says ∙ ap writing_of x in let z : ◌≡◌ {A = ℕ} 0 1 = cc in omega arith)
        go (refused i j) x =
            let g : Err r ≡ Err (record { number = i; second = j }) = sym e ∙ p.says ∙ ap writing_of x in
            let same : r ≡ record { number = i; second = j } = cc in
            start_as (refusal_told all r.number r.second) (refusal_told all i j) o out n (ap (λ (y : Refusal). refusal_told all y.number y.second) same) s

-- ---- By the kept octets of a longer sheet

module _ (pending l : List ℕ) {said : Option Refusal} (says : said ≡ start_said (start_refusal l)) where
  pub start_open : said ≡ None → {o out : List ℕ} {n : ℕ} → StartLaid pending o n out
      → StartLaid (start_shown pending (start_refusal l)) o n out
  start_open e {o} {out} {n} s = go (start_refusal l) refl
    where
      go : (x : book.Refusal) → start_refusal l ≡ x → StartLaid (start_shown pending x) o n out
      go book.none x = s
      go (book.refusal i j) x = absurd (let g = sym e ∙ says ∙ ap start_said x in let z : ◌≡◌ {A = ℕ} 0 1 = cc in omega arith)

  pub start_refused : {r : Refusal} → said ≡ Some r → {o out : List ℕ} {n : ℕ} (t : Text)
      → t ≡ text_of (refusal_line r.number r.second)
      → StartLaid (part_of t.octets 0 t.len) o n out → StartLaid (start_shown pending (start_refusal l)) o n out
  start_refused {r} e {o} {out} {n} t q s = go (start_refusal l) refl
    where
      go : (x : book.Refusal) → start_refusal l ≡ x → StartLaid (start_shown pending x) o n out
      go book.none x = absurd (let g = sym e ∙ says ∙ ap start_said x in let z : ◌≡◌ {A = ℕ} 0 1 = cc in omega arith)
      go (book.refusal i j) x =
          let g : Some r ≡ Some (record { number = i; second = j }) = sym e ∙ says ∙ ap start_said x in
          let same : r ≡ record { number = i; second = j } = cc in
          put_line t (refusal_line i j) o out n (q ∙ ap (λ (y : Refusal). text_of (refusal_line y.number y.second)) same) s

-- ---- The sheet as it is, read into the buffer that is printed

module _ (l : List ℕ) (all : ℕ) (d : List ℕ) (long : 2 ≤ length l) {kind flags : ℕ} {area : List ℕ} (k : kind ≡ get_or l 0 0)
    (f : flags ≡ get_or l 1 0) (a : area ≡ drop 2 l) {said : Reading} {held : List ℕ} (p : ReadWithin kind flags (length d) area d said held) where
  kept : ReadWithin (get_or l 0 0) (get_or l 1 0) (length d) (drop 2 l) d said held
  kept = rw (k, f, a) at p

  pub sheet_printed : {m : ℕ} → said ≡ Ok m → StartLaid (read_printed l all (length d)) d m held
  unfolding read_shown shown_as after
  sheet_printed {m} e = rw (le-ltb (length l) 2 long) (go (read_of l (length d)) refl)
    where
      go : (x : Answer (List ℕ)) → read_of l (length d) ≡ x → StartLaid (shown_as (λ s. s) all x) d m held
      go (given t) x =
          let g : Ok m ≡ Ok (length t) = sym e ∙ kept.says ∙ ap reading_of x in
          let size : m ≡ length t = cc in
          start_laid t d held m (sym size) (omega (arith, read_fits (get_or l 0 0) (get_or l 1 0) (drop 2 l) (length d) t x)) (kept.holds ∙ rw x)
      go (refused i j) x = absurd (let g = sym e ∙ kept.says ∙ ap reading_of x in let z : ◌≡◌ {A = ℕ} 0 1 = cc in omega arith)

  unchanged : {r : Refusal} → said ≡ Err r → held ≡ d
  unfolding after
  unchanged e = go (read_of l (length d)) refl
    where
      go : (x : Answer (List ℕ)) → read_of l (length d) ≡ x → held ≡ d
      go (given t) x = absurd (let g = sym e ∙ kept.says ∙ ap reading_of x in let z : ◌≡◌ {A = ℕ} 0 1 = cc in omega arith)
      go (refused i j) x = kept.holds ∙ rw x

  pub refusal_printed : {r : Refusal} → said ≡ Err r → {out : List ℕ} {n : ℕ}
      → StartLaid (refusal_told all r.number r.second) held n out
      → StartLaid (read_printed l all (length d)) d n out
  refusal_printed {r} e {out} {n} s =
      subst (λ (o : List ℕ). StartLaid (read_printed l all (length d)) o n out) (unchanged e)
      (read_refused (λ t. t) l all (length d) d long k f a p e s).0

-- ---- By the job of a record

module _ (job : ℕ) (l : List ℕ) (all room : ℕ) (d e o : List ℕ) where
  pub record_read : {n : ℕ} {out held : List ℕ} → job ≡ 82
      → StartLaid (read_shown hex_line l all (min room (length d))) o n out × (held ≡ sheet_after l (min room (length d)) d)
      → Answered job l all room d e o n out held e
  unfolding room_of record_line octets_after entries_after
  record_read is p = record { laid = rw is p.0; octets = rw is p.1; list = rw is }

  pub record_check : {n : ℕ} {out held : List ℕ} → job ≡ 67
      → StartLaid (check_shown list_line l all (min room (length e))) o n out × (held ≡ list_after l (min room (length e)) e)
      → Answered job l all room d e o n out d held
  unfolding room_of record_line octets_after entries_after
  record_check is p = record { laid = rw is p.0; octets = rw is; list = rw is p.1 }

  pub record_write : {n : ℕ} {out held : List ℕ} → job ≡ 87
      → StartLaid (write_shown area_line (open_line (length l)) l all (min room (length d))) o n out
      × (held ≡ area_after l all (min room (length d)) d)
      → Answered job l all room d e o n out held e
  unfolding room_of record_line octets_after entries_after
  record_write is p = record { laid = rw is p.0; octets = rw is p.1; list = rw is }

  -- of a job that is not there nothing is laid
  pub record_none : (job ≡ 82 → ⊥) → (job ≡ 67 → ⊥) → (job ≡ 87 → ⊥) → Answered job l all room d e o 0 o d e
  unfolding room_of record_line octets_after entries_after
  record_none a b c =
      record {
        laid = rw (ne_eqb job 82 a, ne_eqb job 67 b, ne_eqb job 87 c) (start_laid [] o o 0 refl (omega arith) (sym (over_none o)));
        octets = rw (ne_eqb job 82 a, ne_eqb job 67 b, ne_eqb job 87 c);
        list = rw (ne_eqb job 67 b);
      }
