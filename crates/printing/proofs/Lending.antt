-- A job with no more room than is asked for: it is lent a part of the buffer from its start on. Assumes nothing.
use mathlib.Core.Path.{◌≡◌, refl, ap, ◌∙◌}
use mathlib.Core.List.{List, [], ◌∷◌, ◌++◌, append_assoc}
use Prim.Native.Nat.{ℕ, zero, suc, ◌≤◌, min}
use native.Mathlib.Omega.{arith}
use lib.ListN.{length, take, drop, take-append-drop}
use lib.Seq.{length-take-le}
use Rattle.meaning.specs.Jobs.{Context}
use Rattle.meaning.specs.Refusals.{Refusal, none, refusal, first, too_short, area_refusal, area_order}
use Rattle.meaning.specs.Sheet.{judged, area_in, kind_in, flags_in}
use Rattle.meaning.specs.Listing.{list_of}
use Rattle.meaning.specs.Answers.{Answer, given, refused, unless, over, after, Promise}
use Rattle.meaning.specs.Answers.{read_answer, check_answer, Written, write_answer, area_answer}
use Rattle.meaning.proofs.Answers.{unless_given, read_exactly}
use Rattle.meaning.proofs.Sheets.{first_none, when_is_none}
use borrow.Author.Tests.{ltb-false}
use lib.Dec.{ltb}
use Rattle.desk.specs.Answers.{Reading, Checking, Writing, reading_of, checking_of, writing_of}
use Rattle.printing.specs.Lent.{ReadWithin, CheckedWithin, WroteWithin}

-- what is laid over the lent part is laid over the whole
over_part : (s d : List ℕ) (n : ℕ) → length s ≤ n → n ≤ length d → over s (take n d) ++ drop n d ≡ over s d
unfolding over
over_part s d n h k =
    append_assoc s (drop (length s) (take n d)) (drop n d)
    ∙ ap (λ (r : List ℕ). s ++ r) (dropped (length s) n d h)
  where
    dropped : (m n : ℕ) (l : List ℕ) → m ≤ n → drop m (take n l) ++ drop n l ≡ drop m l
    dropped zero n l h = take-append-drop n l
    dropped (suc m) zero l h = absurd (omega arith)
    dropped (suc m) (suc n) [] h = refl
    dropped (suc m) (suc n) (x ∷ l) h = dropped m n l (omega arith)

after_part : (a : Answer (List ℕ)) (d : List ℕ) (n : ℕ) → ((s : List ℕ) → a ≡ given s → length s ≤ n) → n ≤ length d
    → after a (take n d) ++ drop n d ≡ after a d
unfolding after
after_part (given s) d n fits h = over_part s d n (fits s refl) h
after_part (refused k s) d n fits h = take-append-drop n d

-- A promise over the part is one over the whole, with no more room.
module _ {A X : Type 0} (show : Answer A → X) (lays : Answer A → Answer (List ℕ)) (answer : ℕ → Answer A)
    (fits : (room : ℕ) (s : List ℕ) → lays (answer room) ≡ given s → length s ≤ room) where
  within :
      (d : List ℕ) (room n : ℕ) (said : X) (held : List ℕ) → n ≡ min room (length d)
      → Promise (show (answer (length (take n d)))) (lays (answer (length (take n d)))) (take n d) said held
      → Promise (show (answer (min room (length d)))) (lays (answer (min room (length d)))) d said (held ++ drop n d)
  within d room n said held e p =
      let h : n ≤ length d = omega arith in
      let size : length (take n d) ≡ min room (length d) = length-take-le n d h ∙ e in
      record {
        says = p.says ∙ ap (λ (k : ℕ). show (answer k)) size;
        holds =
            ap (λ (l : List ℕ). l ++ drop n d) p.holds
            ∙ after_part (lays (answer (length (take n d)))) d n (λ s q. omega (arith, fits (length (take n d)) s q)) h
            ∙ ap (λ (k : ℕ). after (lays (answer k)) d) size;
      }

-- ---- The three jobs

room_enough : (r : Refusal) (n needed room : ℕ) → first r (too_short n needed room) ≡ none → needed ≤ room
room_enough r n needed room e =
    ltb-false room needed (when_is_none (ltb room needed) n needed (first_none r (too_short n needed room) e).1)

module _ (kind flags : ℕ) (area : List ℕ) where
  pub read_fits : (room : ℕ) (s : List ℕ) → read_answer kind flags area room ≡ given s → length s ≤ room
  read_fits room s e = let g = (read_exactly kind flags area room s).0 e in omega (arith, g.1, ap length g.2)

  pub read_lent : (d : List ℕ) (room n : ℕ) (said : Reading) (held : List ℕ) → n ≡ min room (length d)
      → ReadWithin kind flags (length (take n d)) area (take n d) said held
      → ReadWithin kind flags (min room (length d)) area d said (held ++ drop n d)
  read_lent = within reading_of (λ a. a) (read_answer kind flags area) read_fits

module _ (c : Context) (area : List ℕ) where
  check_fits : (room : ℕ) (l : List ℕ) → check_answer c area room ≡ given l → length l ≤ room
  unfolding check_answer area_order
  check_fits room l e =
      let g = unless_given (area_order c.kind c.flags area 10 (length (list_of c area)) room) (list_of c area) l e in
      omega (arith, room_enough (area_refusal c.kind c.flags area) 10 (length (list_of c area)) room g.0, ap length g.1)

  pub check_lent : (d : List ℕ) (room n : ℕ) (said : Checking) (held : List ℕ) → n ≡ min room (length d)
      → CheckedWithin c (length (take n d)) area (take n d) said held
      → CheckedWithin c (min room (length d)) area d said (held ++ drop n d)
  check_lent = within checking_of (λ a. a) (check_answer c area) check_fits

module _ (sheet : List ℕ) where
  write_fits : (room : ℕ) (s : List ℕ) → area_answer (write_answer sheet room) ≡ given s → length s ≤ room
  unfolding write_answer area_answer
  write_fits room s e = go (first (judged sheet) (too_short 25 (length (area_in sheet)) room)) refl e
    where
      whole : Written
      whole = record { kind = kind_in sheet; flags = flags_in sheet; area = area_in sheet }

      go : (r : Refusal) → first (judged sheet) (too_short 25 (length (area_in sheet)) room) ≡ r → area_answer (unless r whole) ≡ given s
          → length s ≤ room
      go none p h = let q : area_in sheet ≡ s = cc in omega (arith, room_enough (judged sheet) 25 (length (area_in sheet)) room p, ap length q)
      go (refusal n k) p h = absurd (let z : ◌≡◌ {A = ℕ} 0 1 = cc in omega arith)

  pub write_lent : (d : List ℕ) (room n : ℕ) (said : Writing) (held : List ℕ) → n ≡ min room (length d)
      → WroteWithin (length (take n d)) sheet (take n d) said held
      → WroteWithin (min room (length d)) sheet d said (held ++ drop n d)
  write_lent = within writing_of area_answer (write_answer sheet) write_fits
