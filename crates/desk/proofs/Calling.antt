-- What follows from a call's promise, by the case of its answer. Assumes nothing.
use mathlib.Core.Path.{◌≡◌, refl, sym, ap, ◌∙◌}
use mathlib.Core.List.{List}
use Prim.Native.Nat.{ℕ, ◌≤◌}
use native.Mathlib.Omega.{arith}
use lib.ListN.{length, take}
use Rattle.meaning.specs.Refusals.{none, refusal}
use Rattle.meaning.specs.Refusals as book
use Rattle.meaning.specs.Sheet.{version_in, sheet_as, Readable}
use Rattle.meaning.specs.Answers.{Answer, given, refused, unless, after, Promise, Written, read_answer, write_answer, area_answer}
use Rattle.meaning.proofs.Walked.{no_refusal}
use Rattle.meaning.proofs.Answers.{read_exactly, written_reads, after_given, after_refused, after_start}
use Rattle.std.specs.Prelude.{Ok, Err}
use Rattle.area.specs.declared.Refusal.{Refusal}
use Rattle.writing.specs.declared.Written as said
use Rattle.desk.specs.Answers.{reading_of, checking_of, writing_of}
use Rattle.desk.specs.Calls.{ReadCall, WriteCall, sheet_for, by, Refuses, Gives, IsRead, IsWritten}

-- ---- Refused

-- a result shows an answer: its refusals are told apart, and are not what is given
pub record Shown {A X : Type 0} (show : Answer A → X) (lays : Answer A → Answer (List ℕ)) (case : Refusal → X) : Type 0 where
  pub shows : (n s : ℕ) → show (refused n s) ≡ case (by n s)
  pub keeps : (n s : ℕ) → lays (refused n s) ≡ refused n s
  pub one : (r r' : Refusal) → case r ≡ case r' → r ≡ r'
  pub apart : (a : A) (r : Refusal) → show (given a) ≡ case r → ⊥

pub read_shown_lem : Shown reading_of (λ a. a) Err
read_shown_lem =
    record {
      shows = λ n s. refl;
      keeps = λ n s. refl;
      one = λ r r' e. cc;
      apart = λ a r e. let z : ◌≡◌ {A = ℕ} 0 1 = cc in omega arith;
    }

pub check_shown_lem : Shown checking_of (λ a. a) Err
check_shown_lem =
    record {
      shows = λ n s. refl;
      keeps = λ n s. refl;
      one = λ r r' e. cc;
      apart = λ a r e. let z : ◌≡◌ {A = ℕ} 0 1 = cc in omega arith;
    }

pub write_shown_lem : Shown writing_of area_answer Err
unfolding area_answer
write_shown_lem =
    record {
      shows = λ n s. refl;
      keeps = λ n s. refl;
      one = λ r r' e. cc;
      apart = λ a r e. let z : ◌≡◌ {A = ℕ} 0 1 = cc in omega arith;
    }

-- An answer that is given unless x applies is refused exactly by x.
module _ {A X : Type 0} {show : Answer A → X} {lays : Answer A → Answer (List ℕ)} {case : Refusal → X} (f : Shown show lays case) where
  pub refuses :
      (x : book.Refusal) (a : A) {buffer : List ℕ} {said : X} {held : List ℕ}
      → Promise (show (unless x a)) (lays (unless x a)) buffer said held → Refuses case x buffer said held
  refuses none a p =
      record {
        exactly = λ n s. (λ e. absurd (f.apart a (by n s) (sym p.says ∙ e)), λ e. no_refusal n s (sym e));
        unchanged = λ n s e. absurd (f.apart a (by n s) (sym p.says ∙ e));
      }
  refuses (refusal m t) a {buffer} {said} {held} p =
      let is : said ≡ case (by m t) = p.says ∙ f.shows m t in
      record {
        exactly =
            λ n s. (
              λ e. ap (λ (r : Refusal). refusal r.number r.second) (f.one (by m t) (by n s) (sym is ∙ e)),
              λ e. let em : m ≡ n = cc in let et : t ≡ s = cc in is ∙ rw (em, et),
            );
        unchanged = λ n s e. p.holds ∙ ap (λ (x : Answer (List ℕ)). after x buffer) (f.keeps m t) ∙ after_refused m t buffer;
      }

-- ---- Given

-- What was read: the area is readable, and the octets of the answer are its sheet.
pub record WasRead (r : ReadCall) (size : ℕ) : Type 0 where
  pub readable : Readable r.kind r.flags r.area
  pub room : length (sheet_for r) ≤ length r.buffer
  pub answer : read_answer r.kind r.flags r.area (length r.buffer) ≡ given (sheet_for r)
  pub sheet_is : take size r.held ≡ sheet_for r

pub was_read : (r : ReadCall) (i : IsRead r) → WasRead r i.size
was_read r i = go (read_answer r.kind r.flags r.area (length r.buffer)) refl (sym i.is ∙ r.promised.says)
  where
    go :
        (a : Answer (List ℕ)) → read_answer r.kind r.flags r.area (length r.buffer) ≡ a
        → Ok i.size ≡ reading_of a → WasRead r i.size
    go (given s) p e =
        let x = (read_exactly r.kind r.flags r.area (length r.buffer) s).0 p in
        let size_is : i.size ≡ length s = cc in
        record {
          readable = record { octets = r.octets; accepted = x.0 };
          room = x.1;
          answer = p ∙ ap given x.2;
          sheet_is = rw (size_is, r.promised.holds, p) (after_start s r.buffer) ∙ x.2;
        }
    go (refused m t) p e = absurd (let z : ◌≡◌ {A = ℕ} 0 1 = cc in omega arith)

-- What was written: the octets of the answer are a readable area that has the sheet.
pub record WasWritten (w : WriteCall) (size kind flags : ℕ) : Type 0 where
  pub readable : Readable kind flags (take size w.held)
  pub has : sheet_as (version_in w.sheet) kind flags (take size w.held) ≡ w.sheet

pub was_written : (w : WriteCall) (i : IsWritten w) → WasWritten w i.size i.kind i.flags
unfolding area_answer
was_written w i = go (write_answer w.sheet (length w.buffer)) refl (sym i.is ∙ w.promised.says)
  where
    go :
        (a : Answer Written) → write_answer w.sheet (length w.buffer) ≡ a
        → Ok (record { length = i.size; kind = i.kind; flags = i.flags }) ≡ writing_of a → WasWritten w i.size i.kind i.flags
    go (given v) p e =
        let is : record { length = i.size; kind = i.kind; flags = i.flags } ≡ record { length = length v.area; kind = v.kind; flags = v.flags } = cc in
        let size_is : i.size ≡ length v.area = ap (λ (x : said.Written). x.length) is in
        let kind_is : i.kind ≡ v.kind = ap (λ (x : said.Written). x.kind) is in
        let flags_is : i.flags ≡ v.flags = ap (λ (x : said.Written). x.flags) is in
        let x = written_reads w.sheet (length w.buffer) v w.octets p in
        let area_is : take i.size w.held ≡ v.area = rw (size_is, w.promised.holds, p) (after_start v.area w.buffer) in
        record { readable = rw (kind_is, flags_is, area_is) x.readable; has = rw (kind_is, flags_is, area_is) x.is }
    go (refused m t) p e = absurd (let z : ◌≡◌ {A = ℕ} 0 1 = cc in omega arith)

-- What is given stands in the buffer.
pub gives :
    {X : Type 0} {answer answer' said : X} {lays : Answer (List ℕ)} {s buffer held : List ℕ} → Promise answer lays buffer said held
    → answer ≡ answer' → lays ≡ given s → length s ≤ length buffer → Gives answer' s buffer said held
gives {s = s} {buffer = buffer} p e l room = record { says = p.says ∙ e; laid = rw (p.holds, l) (after_given s buffer room) }
