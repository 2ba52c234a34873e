-- What is printed, whole: the buffers of the programs have room enough, the octets that they keep are enough, and no line is longer than
-- its buffer. Every `&[u8]` that is handed over is octets. Assumes nothing.
use mathlib.Core.Path.{◌≡◌, refl, sym, ap, ◌∙◌}
use mathlib.Core.Bool.{Bool, true, false, cond}
use mathlib.Core.List.{List, [], ◌∷◌, ◌++◌}
use Prim.Native.Nat.{ℕ, ◌+◌, ◌*◌, ◌<◌, ◌≤◌, min}
use native.Mathlib.Omega.{arith}
use borrow.Author.Tests.{lt-ltb, le-ltb, ltb-true, ltb-false, leb-true, leb-false, eqb-true}
use lib.Dec.{eqb, leb, ltb}
use lib.ListN.{length, take, drop, get_or, length-append, length-drop, take-append-drop, get_or-append}
use lib.Seq.{take_all, length-take-le}
use Rattle.meaning.specs.Octets.{Octets}
use Rattle.meaning.specs.Versions.{current}
use Rattle.meaning.specs.Jobs.{comes}
use Rattle.meaning.specs.Framing.{walk}
use Rattle.meaning.specs.Refusals.{Refusal, none, refusal, first, fault, too_short, too_long}
use Rattle.meaning.specs.Refusals.{kind_refusal, framing_refusal, area_refusal, area_order}
use Rattle.meaning.specs.Sheet.{sheet_of, judged, area_in, kind_in, flags_in}
use Rattle.meaning.specs.Listing.{list_of}
use Rattle.meaning.specs.Answers.{Answer, given, refused, unless, read_answer, check_answer, Written, write_answer}
use Rattle.meaning.proofs.Octets.{octets_drop}
use Rattle.meaning.proofs.Bounds.{sheet_bound}
use Rattle.meaning.proofs.Sheets.{clear, unrefused, first_none}
use Rattle.meaning.proofs.Answers.{unless_given, read_exactly}
use Rattle.checking.proofs.Bounds.{list_bound}
use Rattle.lines.specs.Lines.{decimal, refused_word, refusal_line, second_told}
use Rattle.lines.proofs.Spelling.{decimal_length}
use Rattle.printing.specs.Printed.{read_of, check_of, refusal_told, shown_as, read_shown, check_shown, write_shown}
use Rattle.printing.specs.Printed.{read_printed, check_printed, write_printed}
use Rattle.printing.specs.Printed.{hex_line, list_line, area_line, open_line, is_job, job_read, job_check, job_write, record_line}
use Rattle.printing.specs.Printed.{short_line, kind_flags, not_judged, start_shown}
use Rattle.printing.specs.Lent.{room_of, Answered}
use Rattle.printing.proofs.Pieces.{hex_length, line_length, kind_flags_length}
use Rattle.writing.specs.Starts.{start_refusal}

-- ---- Room

-- two rooms of which each is enough or neither is
order_same : (r : Refusal) (n needed a b : ℕ) → (r ≡ none → ltb a needed ≡ ltb b needed)
    → first r (too_short n needed a) ≡ first r (too_short n needed b)
order_same none n needed a b h = rw (h refl)
order_same (refusal k s) n needed a b h = refl

-- a room that is cut to what is enough for all is as good as it was
cut_same : (needed room most : ℕ) → needed ≤ most → ltb (min room most) needed ≡ ltb room needed
cut_same needed room most h = go (ltb room needed) refl
  where
    go : (b : Bool) → ltb room needed ≡ b → ltb (min room most) needed ≡ b
    go true e = lt-ltb (min room most) needed (let k : room < needed = ltb-true room needed e in omega arith)
    go false e = le-ltb (min room most) needed (let k : needed ≤ room = ltb-false room needed e in omega arith)

module _ (l : List ℕ) (o : Octets l) (room most : ℕ) where
  sheet_room : 8161 ≤ most → read_of l (min room most) ≡ read_of l room
  unfolding read_answer area_order
  sheet_room h =
      ap (λ (r : Refusal). unless r (sheet_of (get_or l 0 0) (get_or l 1 0) (drop 2 l)))
      (order_same (area_refusal (get_or l 0 0) (get_or l 1 0) (drop 2 l)) 9 (length (sheet_of (get_or l 0 0) (get_or l 1 0) (drop 2 l))) (min room most) room
      (λ e. cut_same _ room most (omega (arith, sheet_bound current (get_or l 0 0) (get_or l 1 0) (drop 2 l) (record { octets = octets_drop 2 l o; accepted = e }), (clear (get_or l 0 0) (get_or l 1 0) (drop 2 l) e).short))))

  list_room : 6126 ≤ most → check_of l (min room most) ≡ check_of l room
  unfolding check_answer area_order
  list_room h =
      ap (λ (r : Refusal). unless r (list_of (comes (get_or l 0 0) (get_or l 1 0)) (drop 2 l)))
      (order_same (area_refusal (get_or l 0 0) (get_or l 1 0) (drop 2 l)) 10 (length (list_of (comes (get_or l 0 0) (get_or l 1 0)) (drop 2 l))) (min room most) room
      (λ e. cut_same _ room most (omega (arith, list_bound (comes (get_or l 0 0) (get_or l 1 0)) (drop 2 l) (record { octets = octets_drop 2 l o; accepted = e })))))

area_room : (s : List ℕ) (room most : ℕ) → 4076 ≤ most → write_answer s (min room most) ≡ write_answer s room
unfolding write_answer
area_room s room most h =
    ap (λ (r : Refusal). unless r (record { kind = kind_in s; flags = flags_in s; area = area_in s }))
    (order_same (judged s) 25 (length (area_in s)) (min room most) room (λ e. cut_same _ room most (omega (arith, (unrefused s e).short))))

-- The read program's buffer of 8,161 octets, the check program's list of 6,126 entries and the write program's 4,076 octets are as good
-- as any greater room: refusals 9, 10 and 25 are never printed.
module _ (l : List ℕ) (all room : ℕ) where
  pub longest_sheet : Octets l → 8161 ≤ room → read_printed l all 8161 ≡ read_printed l all room
  unfolding read_shown
  longest_sheet o h =
      let least : min room 8161 ≡ 8161 = omega arith in
      let same_answer : read_of l 8161 ≡ read_of l room = ap (read_of l) (sym least) ∙ sheet_room l o room 8161 (omega arith) in
      rw same_answer

  pub longest_list : Octets l → 6126 ≤ room → check_printed l all 6126 ≡ check_printed l all room
  unfolding check_shown
  longest_list o h =
      let least : min room 6126 ≡ 6126 = omega arith in
      let same_answer : check_of l 6126 ≡ check_of l room = ap (check_of l) (sym least) ∙ list_room l o room 6126 (omega arith) in
      rw same_answer

  pub longest_area : 4076 ≤ room → write_printed l all 4076 ≡ write_printed l all room
  unfolding write_shown
  longest_area h =
      let least : min room 4076 ≡ 4076 = omega arith in
      let same_answer : write_answer l 4076 ≡ write_answer l room = ap (write_answer l) (sym least) ∙ area_room l room 4076 (omega arith) in
      rw same_answer

-- With 8,161 octets and 6,126 entries lent, the line of a record is that of its own room, whatever that is.
pub lent_enough : (job : ℕ) (l : List ℕ) (all room octets entries : ℕ) → Octets l → 8161 ≤ octets → 6126 ≤ entries
    → record_line job l all (room_of job room octets entries) ≡ record_line job l all room
unfolding record_line room_of read_shown check_shown write_shown
lent_enough job l all room octets entries o h k = go (eqb job job_check) refl (eqb job job_read) refl
  where
    go : (b : Bool) → eqb job job_check ≡ b → (c : Bool) → eqb job job_read ≡ c
        → record_line job l all (room_of job room octets entries) ≡ record_line job l all room
    go true p c q = rw (p, list_room l o room entries k, eqb-true job 67 p)
    go false p true q = rw (p, q, sheet_room l o room octets h)
    go false p false q = rw (p, q, area_room l room octets (omega arith))

-- ---- What is kept

-- an area of more than 4,076 octets is refused by its kind and flags, or by its length
too_long_told : (all : ℕ) → Refusal → List ℕ
too_long_told all none = refusal_told all 3 0
too_long_told all (refusal n s) = refusal_told all n s

module _ (show : List ℕ → List ℕ) (all room : ℕ) (kind flags : ℕ) (area : List ℕ) (h : 4076 < length area) where
  long_order : {A : Type 0} (show : A → List ℕ) (n needed : ℕ) (a : A)
      → shown_as show all (unless (area_order kind flags area n needed room) a) ≡ too_long_told all (kind_refusal kind flags)
  unfolding area_order area_refusal framing_refusal shown_as refusal_told second_told too_long_told
  long_order show n needed a = go (kind_refusal kind flags)
    where
      go : (r : Refusal)
          → shown_as show all (unless (first (first r (first (too_long 3 (length area)) (fault (walk area)))) (too_short n needed room)) a)
          ≡ too_long_told all r
      go none = rw (lt-ltb 4076 (length area) h)
      go (refusal n s) = refl

  long_read : shown_as show all (read_answer kind flags area room) ≡ too_long_told all (kind_refusal kind flags)
  unfolding read_answer
  long_read = long_order show 9 (length (sheet_of kind flags area)) (sheet_of kind flags area)

  long_check : shown_as show all (check_answer (comes kind flags) area room) ≡ too_long_told all (kind_refusal kind flags)
  unfolding check_answer
  long_check = long_order show 10 (length (list_of (comes kind flags) area)) (list_of (comes kind flags) area)

-- Of kind, flags and area the first 4,079 octets, or more of them, decide what is printed, with the number of all.
module _ (show : List ℕ → List ℕ) (l : List ℕ) (k room : ℕ) (h : 4079 ≤ k) where
  module _ (more : k < length l) where
    size : length (take k l) ≡ k
    size = length-take-le k l (omega arith)

    first_same : (i : ℕ) → i < k → get_or (take k l) i 0 ≡ get_or l i 0
    first_same i e =
        sym (get_or-append (take k l) (drop k l) 0 i (omega (arith, size))) ∙ ap (λ (t : List ℕ). get_or t i 0) (take-append-drop k l)

    rest_long : (t : List ℕ) → k ≤ length t → 4076 < length (drop 2 t)
    rest_long t e = omega (arith, length-drop 2 t)

    same_refusal : kind_refusal (get_or (take k l) 0 0) (get_or (take k l) 1 0) ≡ kind_refusal (get_or l 0 0) (get_or l 1 0)
    same_refusal = rw (first_same 0 (omega arith), first_same 1 (omega arith))

    read_cut : read_shown show (take k l) (length l) room ≡ read_shown show l (length l) room
    unfolding read_shown
    read_cut =
        rw (le-ltb (length (take k l)) 2 (omega (arith, size)), le-ltb (length l) 2 (omega arith))
        (long_read show (length l) room _ _ (drop 2 (take k l)) (rest_long (take k l) (omega (arith, size))) ∙ ap (too_long_told (length l)) same_refusal
        ∙ sym (long_read show (length l) room _ _ (drop 2 l) (rest_long l (omega arith))))

    check_cut : check_shown show (take k l) (length l) room ≡ check_shown show l (length l) room
    unfolding check_shown
    check_cut =
        rw (le-ltb (length (take k l)) 2 (omega (arith, size)), le-ltb (length l) 2 (omega arith))
        (long_check show (length l) room _ _ (drop 2 (take k l)) (rest_long (take k l) (omega (arith, size))) ∙ ap (too_long_told (length l)) same_refusal
        ∙ sym (long_check show (length l) room _ _ (drop 2 l) (rest_long l (omega arith))))

  pub decisive_read : read_shown show (take k l) (length l) room ≡ read_shown show l (length l) room
  decisive_read = go (leb (length l) k) refl
    where
      go : (b : Bool) → leb (length l) k ≡ b → read_shown show (take k l) (length l) room ≡ read_shown show l (length l) room
      go true e = rw (take_all k l (leb-true (length l) k e))
      go false e = read_cut (leb-false (length l) k e)

  pub decisive_check : check_shown show (take k l) (length l) room ≡ check_shown show l (length l) room
  decisive_check = go (leb (length l) k) refl
    where
      go : (b : Bool) → leb (length l) k ≡ b → check_shown show (take k l) (length l) room ≡ check_shown show l (length l) room
      go true e = rw (take_all k l (leb-true (length l) k e))
      go false e = check_cut (leb-false (length l) k e)

-- ---- The longest line

-- some octets, and at most so many
pub record Between (l : List ℕ) (most : ℕ) : Type 0 where
  pub some : 1 ≤ length l
  pub enough : length l ≤ most

refusal_line_lem : (n s : ℕ) → Between (refusal_line n s) 50
unfolding refusal_line
refusal_line_lem n s =
    let b : List ℕ = decimal s ++ (10 ∷ []) in
    let a : List ℕ = decimal n ++ ((32 ∷ []) ++ b) in
    record {
      some = omega (arith, length-append refused_word a);
      enough = omega (arith, length-append refused_word a, length-append (decimal n) ((32 ∷ []) ++ b), length-append (32 ∷ []) b, length-append (decimal s) (10 ∷ []), decimal_length n, decimal_length s);
    }

-- no more octets than are enough for something greater
wider : {l : List ℕ} {a b : ℕ} → a ≤ b → Between l a → Between l b
wider h p = record { some = p.some; enough = omega (arith, p.enough) }

-- what is shown of an answer, where all that can be given is shown so
shown_between : {A : Type 0} (show : A → List ℕ) (all most : ℕ) (a : Answer A) → 50 ≤ most → ((x : A) → a ≡ given x → Between (show x) most)
    → Between (shown_as show all a) most
unfolding shown_as refusal_told
shown_between show all most (given x) h f = f x refl
shown_between show all most (refused n s) h f = wider h (refusal_line_lem n (second_told n s all))

hex_between : (s : List ℕ) (n : ℕ) → length s ≤ n → Between (hex_line s) (2 * n + 1)
hex_between s n h = record { some = omega (arith, hex_length s); enough = omega (arith, hex_length s) }

list_between : (l : List ℕ) (n : ℕ) → length l ≤ n → 1 ≤ n → Between (list_line l) (9 * n)
unfolding list_line
list_between [] n h k = record { some = omega arith; enough = omega arith }
list_between (e ∷ l) n h k = record { some = omega (arith, line_length e l); enough = omega (arith, line_length e l) }

module _ (l : List ℕ) (o : Octets l) (all room : ℕ) where
  read_between : Between (shown_as hex_line all (read_of l room)) 55134
  read_between = shown_between hex_line all 55134 (read_of l room) (omega arith) each
    where
      each : (s : List ℕ) → read_of l room ≡ given s → Between (hex_line s) 55134
      each s e =
          let g = (read_exactly (get_or l 0 0) (get_or l 1 0) (drop 2 l) room s).0 e in
          let bound = sheet_bound current (get_or l 0 0) (get_or l 1 0) (drop 2 l) (record { octets = octets_drop 2 l o; accepted = g.0 }) in
          let c = clear (get_or l 0 0) (get_or l 1 0) (drop 2 l) g.0 in
          wider (omega arith) (hex_between s 8161 (omega (arith, bound, c.short, ap length g.2)))

  check_between : Between (shown_as list_line all (check_of l room)) 55134
  unfolding check_answer area_order
  check_between = shown_between list_line all 55134 (check_of l room) (omega arith) each
    where
      each : (s : List ℕ) → check_of l room ≡ given s → Between (list_line s) 55134
      each s e =
          let g = unless_given _ (list_of (comes (get_or l 0 0) (get_or l 1 0)) (drop 2 l)) s e in
          let f = first_none (area_refusal (get_or l 0 0) (get_or l 1 0) (drop 2 l)) _ g.0 in
          let bound = list_bound (comes (get_or l 0 0) (get_or l 1 0)) (drop 2 l) (record { octets = octets_drop 2 l o; accepted = f.0 }) in
          list_between s 6126 (omega (arith, bound, ap length g.1)) (omega arith)

write_between : (s : List ℕ) (all room : ℕ) → Between (shown_as area_line all (write_answer s room)) 55134
unfolding write_answer area_line
write_between s all room = shown_between area_line all 55134 (write_answer s room) (omega arith) each
  where
    each : (w : Written) → write_answer s room ≡ given w → Between (area_line w) 55134
    each w e =
        let g = unless_given _ (record { kind = kind_in s; flags = flags_in s; area = area_in s }) w e in
        let f = first_none (judged s) _ g.0 in
        let short : length w.area ≤ 4076 = omega (arith, (unrefused s f.0).short, ap (λ (x : Written). length x.area) g.1) in
        let both = length-append (kind_flags w.kind w.flags) (hex_line w.area) in
        record {
          some = omega (arith, both, hex_length w.area);
          enough = omega (arith, both, hex_length w.area, kind_flags_length w.kind w.flags, short);
        }

open_between : (n : ℕ) → Between (open_line n) 50
unfolding open_line
open_between n =
    let front : List ℕ = 111 ∷ 118 ∷ 101 ∷ 114 ∷ 32 ∷ [] in
    record {
      some = omega (arith, length-append front (decimal n ++ not_judged));
      enough = omega (arith, length-append front (decimal n ++ not_judged), length-append (decimal n) not_judged, decimal_length n);
    }

start_between : (n : ℕ) (r : Refusal) → Between (start_shown (open_line n) r) 50
start_between n none = open_between n
start_between n (refusal k s) = refusal_line_lem k s

-- Every line of a record has at least one octet, and at most nine for each of 6,126 entries.
pub line_between : (job : ℕ) (l : List ℕ) (all room : ℕ) → Octets l → is_job job ≡ true → Between (record_line job l all room) 55134
unfolding record_line read_shown check_shown write_shown
line_between job l all room o j = go (eqb job job_read) refl (eqb job job_check) refl (eqb job job_write) refl
  where
    short : Between short_line 55134
    short = record { some = omega arith; enough = omega arith }

    read : (b : Bool) → Between (cond b short_line (shown_as hex_line all (read_of l room))) 55134
    read true = short
    read false = read_between l o all room

    check : (b : Bool) → Between (cond b short_line (shown_as list_line all (check_of l room))) 55134
    check true = short
    check false = check_between l o all room

    write : (b : Bool)
        → Between (cond b (start_shown (open_line (length l)) (start_refusal l)) (shown_as area_line all (write_answer l room))) 55134
    write true = wider (omega arith) (start_between (length l) (start_refusal l))
    write false = write_between l all room

    go :
        (a : Bool) → eqb job job_read ≡ a → (b : Bool) → eqb job job_check ≡ b → (c : Bool) → eqb job job_write ≡ c
        → Between (record_line job l all room) 55134
    go true p b q c r = rw p (read (ltb (length l) 2))
    go false p true q c r = rw (p, q) (check (ltb (length l) 2))
    go false p false q true r = rw (p, q, r) (write (ltb (length l) all))
    go false p false q false r = absurd (let g = rw (p, q, r) at j in let z : ◌≡◌ {A = ℕ} 0 1 = cc in omega arith)

-- Any two answers that the promise of a record permits are the same, the lent buffers included.
pub one_record : {job : ℕ} {l : List ℕ} {all room : ℕ} {d e o : List ℕ} {n n' : ℕ} {out out' held held' entries entries' : List ℕ}
    → Answered job l all room d e o n out held entries → Answered job l all room d e o n' out' held' entries'
    → (n ≡ n') × ((out ≡ out') × ((held ≡ held') × (entries ≡ entries')))
one_record p q =
    (p.laid.says ∙ sym q.laid.says, (p.laid.holds ∙ sym q.laid.holds, (p.octets ∙ sym q.octets, p.list ∙ sym q.list)))
