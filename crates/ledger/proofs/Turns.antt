-- What is answered to a sheet, by what was found in it: the first of 30 to 33 that applies, or the next state. Assumes nothing.
use Rattle.std.proofs.Common.{◌≡◌, ℕ, List, refl, arith}
use Rattle.meaning.specs.Ledger as meant
use Rattle.meaning.specs.Ledger.{Had, missing, had, reading_in, session_in, octets_in, octets_out, packets_in, packets_out}
use Rattle.meaning.specs.Ledger.{passes64, too_much, is_start, closes, out_of_turn, unlike, ledger_refusal, book_answer}
use Rattle.std.specs.Prelude.{cond, Result, Ok, Err}
use Rattle.area.specs.declared.Refusal.{Refusal}
use Rattle.writing.specs.Answers.{Judgement, judgement_of}
use Rattle.ledger.specs.declared.Kind.{Kind}
use Rattle.ledger.specs.declared.Told.{Told}
use Rattle.ledger.specs.Answers.{Booking, number_by, had_by, told_of, kind_number, kind_by, booking_of, refused_as, added_by, named_by}

-- a number that a sheet has or not, there and back
had_back : (h : Had) → had_by (number_by h) ≡ h
had_back missing = refl
had_back (had n) = refl

-- what comes of a sheet that is written, by what it tells and its kind
abbrev pub kind_answered : meant.Ledger → Told → Result Kind Refusal → Booking
kind_answered l t (Err x) = Err x
kind_answered l t (Ok k) = cond (out_of_turn l.opened (kind_number k)) (refused_as 31) (named_by l (kind_number k) t)

-- and of any sheet, by its judgement
abbrev pub judgement_answered : meant.Ledger → (sheet : List ℕ) → Judgement → Booking
judgement_answered l sheet (Err x) = refused_as 30
judgement_answered l sheet (Ok w) = kind_answered l (told_of sheet) (kind_by w.kind)

pub answered : (l : meant.Ledger) (sheet : List ℕ) → booking_of (book_answer l sheet) ≡ judgement_answered l sheet (judgement_of sheet)
unfolding judgement_of book_answer ledger_refusal out_of_turn named_by added_by told_of meant.booked meant.added meant.begun unlike too_much
answered l sheet = grind (arith, had_back)
