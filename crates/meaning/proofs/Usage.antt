-- Request 2, the ledger over any calls from a fresh one: each total is the sum over the readings had, and is a multiple of
-- 4,294,967,296 away from the last of them; what is refused changes nothing, and a sheet without a reading adds none. Assumes nothing.
use mathlib.Core.Path.{◌≡◌, refl, sym, ap, ◌∙◌}
use mathlib.Core.Logic.{⊎_elim, ◌↔◌}
use mathlib.Core.Bool.{Bool, true, false, cond}
use mathlib.Core.List.{List, [], ◌∷◌, ◌++◌, append-nil}
use Prim.Native.Nat.{ℕ, ◌+◌, ◌*◌, ◌/◌, ◌%◌, ◌^◌, ◌<◌, ◌≤◌}
use native.Mathlib.Omega.{arith}
use lib.Dec.{eqb, leb→le, eqb→eq}
use borrow.Author.Tests.{eqb-true}
use lib.ListN.{length, drop}
use Rattle.meaning.specs.Octets.{Octets, number_of}
use Rattle.meaning.specs.Versions.{Version}
use Rattle.meaning.specs.Framing.{is_plain, Attribute, Carried, All, attributes}
use Rattle.meaning.specs.Refusals.{Refusal, none, refusal, first, when}
use Rattle.meaning.specs.Shapes.{Shape, number, shape_of, plain_shape, meets}
use Rattle.meaning.specs.Sheet.{form_of, form, items_in, version_in, kind_in, judged, Writable}
use Rattle.meaning.specs.Answers.{Answer, given, refused, unless}
use Rattle.meaning.specs.Ledger.{Had, missing, had, first_in, reading_in, session_in, Counter, octets_in, octets_out, packets_in}
use Rattle.meaning.specs.Ledger.{packets_out, counter_number, Account, Ledger, cleared, fresh, gap, counted, is_start, begun, added}
use Rattle.meaning.specs.Ledger.{booked, unwritable, ledger_refusal, book_answer, state_by, behind, behind_all, unless_refused, accepted}
use Rattle.meaning.specs.Ledger.{alone, readings_on, readings, usage, last_of}
use Rattle.meaning.proofs.Tests.{passes}
use Rattle.meaning.proofs.Numbers.{number_fits}
use Rattle.meaning.proofs.Octets.{octets_drop}
use Rattle.meaning.proofs.Forms.{either_way}
use Rattle.meaning.proofs.RoundTrip.{judged_items}
use Rattle.meaning.proofs.Walked.{no_refusal}
use Rattle.meaning.proofs.Sheets.{first_none, unrefused, written_exactly}

-- ---- A reading is a number of 32 bits

-- the shape of each counter's number is a number
pub counter_shape : (c : Counter) → shape_of (counter_number c) ≡ number
unfolding shape_of plain_shape
counter_shape octets_in = refl
counter_shape octets_out = refl
counter_shape packets_in = refl
counter_shape packets_out = refl

-- in form 2 it has four octets
pub four_octets : (ver : Version) (c : Counter) (v : List ℕ) → form ver (counter_number c) v ≡ 2 → length v ≡ 4
unfolding form_of meets
four_octets ver c v e =
    ⊎_elim (λ d. eqb→eq (length v) 4 (rw (counter_shape c) at d.met)) (λ q. absurd (low (is_plain (counter_number c)) (sym q.form_is ∙ e))) (either_way ver (counter_number c) v)
  where
    low : (b : Bool) → ◌≡◌ {A = ℕ} (cond b 0 1) 2 → ⊥
    low true h = omega arith
    low false h = omega arith

number_low : (v : List ℕ) → Octets v → length v ≡ 4 → number_of v < 4294967296
number_low v o e = let h = number_fits v o in omega (arith, ap (λ (w : ℕ). 256 ^ w) e)

first_low : (ver : Version) (c : Counter) (l : List Attribute) → All Carried l → (r : ℕ)
    → first_in ver (counter_number c) 2 number_of l ≡ had r → r < 4294967296
unfolding first_in
first_low ver c [] o r e = absurd (let z : ◌≡◌ {A = ℕ} 0 1 = cc in omega arith)
first_low ver c (a ∷ l) o r e = go (eqb a.number (counter_number c)) (eqb (form ver (counter_number c) a.value) 2) refl e (first_low ver c l o.1 r)
  where
    go :
        (b d : Bool) → eqb (form ver (counter_number c) a.value) 2 ≡ d
        → cond b (cond d (had (number_of a.value)) missing) (first_in ver (counter_number c) 2 number_of l) ≡ had r
        → (first_in ver (counter_number c) 2 number_of l ≡ had r → r < 4294967296) → r < 4294967296
    go true true q h ih =
        let is : number_of a.value ≡ r = cc in
        let four = four_octets ver c a.value (eqb-true _ 2 q) in
        omega (arith, is, number_low a.value o.0.octets four)
    go true false q h ih = absurd (let z : ◌≡◌ {A = ℕ} 0 1 = cc in omega arith)
    go false d q h ih = ih h

pub reading_low : (c : Counter) (sheet : List ℕ) → Octets sheet → judged sheet ≡ none → (r : ℕ)
    → reading_in (counter_number c) sheet ≡ had r → r < 4294967296
unfolding reading_in items_in
reading_low c sheet o e r h =
    first_low (version_in sheet) c _ (judged_items (version_in sheet) _ 9 (drop 9 sheet) (octets_drop 9 sheet o) (unrefused sheet e).sound).carried r h

-- ---- One call

-- A call that is refused leaves the state as it was; one that is accepted gives the state that is booked.
pub refused_unchanged : (l : Ledger) (sheet : List ℕ) (n s : ℕ) → book_answer l sheet ≡ refused n s → behind l sheet ≡ l
refused_unchanged l sheet n s e = ap (state_by l) e

pub accepted_booked : (l : Ledger) (sheet : List ℕ) → ledger_refusal l sheet ≡ none → behind l sheet ≡ booked l sheet
unfolding book_answer
accepted_booked l sheet e = rw e

-- "a sheet without one adds nothing": where it is no START, the account of the counter stays.
pub none_adds_nothing :
    (l : Ledger) (sheet : List ℕ) (c : Counter) → is_start (kind_in sheet) ≡ false → reading_in (counter_number c) sheet ≡ missing
    → (behind l sheet).accounts c ≡ l.accounts c
unfolding book_answer booked added counted
none_adds_nothing l sheet c k e = go (ledger_refusal l sheet)
  where
    go : (r : Refusal) → (state_by l (unless r (cond (is_start (kind_in sheet)) (begun (session_in sheet)) (added l sheet)))).accounts c ≡ l.accounts c
    go none = rw (k, e)
    go (refusal n s) = refl

-- what is accepted would be written
written : (l : Ledger) (sheet : List ℕ) → ledger_refusal l sheet ≡ none → judged sheet ≡ none
unfolding ledger_refusal
written l sheet e = clean (judged sheet) (first_none (unwritable (judged sheet)) _ e).0
  where
    clean : (r : Refusal) → unwritable r ≡ none → r ≡ none
    clean none q = refl
    clean (refusal n s) q = no_refusal 30 0 q

-- ---- Any calls

-- one reading more behind some
usage_more : (a : ℕ) (l : List ℕ) (r : ℕ) → usage ((a ∷ l) ++ r ∷ []) ≡ usage (a ∷ l) + gap (last_of (a ∷ l)) r
unfolding usage last_of
usage_more a [] r = omega arith
usage_more a (b ∷ l) r = omega (arith, usage_more b l r)

last_more : (a : ℕ) (l : List ℕ) (r : ℕ) → last_of ((a ∷ l) ++ r ∷ []) ≡ r
unfolding last_of
last_more a [] r = refl
last_more a (b ∷ l) r = last_more b l r

-- What holds of an account when some readings were had.
pub record Follows (a : Account) (readings : List ℕ) : Type 0 where
  pub last_is : a.last ≡ last_of readings
  pub total_is : a.total ≡ usage readings
  pub rolled : a.total % 4294967296 ≡ a.last

-- a START's
follows_start : Follows cleared (0 ∷ [])
unfolding usage last_of
follows_start = record { last_is = refl; total_is = refl; rolled = refl }

-- with what a sheet brings
follows_more : (a : Account) (x : ℕ) (l : List ℕ) → Follows a (x ∷ l) → (h : Had) → ((r : ℕ) → h ≡ had r → r < 4294967296)
    → Follows (counted a h) ((x ∷ l) ++ alone h)
unfolding counted gap
follows_more a x l f missing low = rw (append-nil (x ∷ l)) f
follows_more a x l f (had r) low =
    record {
      last_is = sym (last_more x l r);
      total_is = omega (arith, f.total_is, usage_more x l r, ap (λ (k : ℕ). gap k r) f.last_is);
      rolled = omega (arith, f.rolled, low r refl);
    }

begun_cleared : (h : Had) (c : Counter) → (begun h).accounts c ≡ cleared
unfolding begun
begun_cleared missing c = refl
begun_cleared (had id) c = refl

-- each of the sheets is octets
abbrev pub Sheets : List (List ℕ) → Type 0
Sheets [] = Unit {0}
Sheets (s ∷ r) = Octets s × Sheets r

-- From any state whose account follows some readings, it follows those that the run brings behind them.
module _ (c : Counter) where
  -- the readings behind an accepted sheet
  abbrev then : (x : ℕ) (h : List ℕ) (sheet : List ℕ) → List ℕ
  then x h s = cond (is_start (kind_in s)) (0 ∷ []) (x ∷ h ++ alone (reading_in (counter_number c) s))

  accepted_follows : (l : Ledger) (s : List ℕ) → Octets s → judged s ≡ none → (x : ℕ) (h : List ℕ) → Follows (l.accounts c) (x ∷ h)
      → (P : Ledger → List ℕ → Type 0)
      → ((m : Ledger) (y : ℕ) (k : List ℕ) → Follows (m.accounts c) (y ∷ k) → P m (y ∷ k))
      → P (booked l s) (then x h s)
  unfolding booked added
  accepted_follows l s o j x h f P on = go (is_start (kind_in s))
    where
      go : (b : Bool) → P (cond b (begun (session_in s)) (added l s)) (cond b (0 ∷ []) (x ∷ h ++ alone (reading_in (counter_number c) s)))
      go true = on (begun (session_in s)) 0 [] (rw (begun_cleared (session_in s) c) follows_start)
      go false =
          on (added l s) x (h ++ alone (reading_in (counter_number c) s))
          (follows_more (l.accounts c) x h f (reading_in (counter_number c) s) (reading_low c s o j))

  -- what holds of the sheets behind an accepted one
  abbrev Rest : (r : List (List ℕ)) → Type 0
  Rest r =
      (m : Ledger) (y : ℕ) (k : List ℕ) → Follows (m.accounts c) (y ∷ k)
      → Follows ((behind_all m r).accounts c) (readings_on (counter_number c) (y ∷ k) (accepted m r))

  run_follows : (sheets : List (List ℕ)) → Sheets sheets → (l : Ledger) (x : ℕ) (h : List ℕ) → Follows (l.accounts c) (x ∷ h)
      → Follows ((behind_all l sheets).accounts c) (readings_on (counter_number c) (x ∷ h) (accepted l sheets))
  unfolding behind_all accepted readings_on book_answer
  run_follows [] o l x h f = f
  run_follows (s ∷ r) o l x h f = go (ledger_refusal l s) refl (run_follows r o.1)
    where
      go : (q : Refusal) → ledger_refusal l s ≡ q → Rest r
          → Follows ((behind_all (behind l s) r).accounts c)
          (readings_on (counter_number c) (x ∷ h) (unless_refused s (ledger_refusal l s) ++ accepted (behind l s) r))
      go none e ih = rw e (accepted_follows l s o.0 (written l s e) x h f (λ m k. Follows ((behind_all m r).accounts c) (readings_on (counter_number c) k (accepted m r))) ih)
      go (refusal n k) e ih = rw e (ih l x h f)

-- "the total equals the sum", for each counter, over any calls from a fresh ledger.
pub total_is_usage :
    (c : Counter) (sheets : List (List ℕ)) → Sheets sheets → ((behind_all fresh sheets).accounts c).total ≡ usage (readings c sheets)
unfolding readings
total_is_usage c sheets o = (run_follows c sheets o fresh 0 [] follows_start).total_is

-- the state keeps the last reading had
pub last_is_kept :
    (c : Counter) (sheets : List (List ℕ)) → Sheets sheets → ((behind_all fresh sheets).accounts c).last ≡ last_of (readings c sheets)
unfolding readings
last_is_kept c sheets o = (run_follows c sheets o fresh 0 [] follows_start).last_is

-- a total is the last reading and so many times 4,294,967,296 more
pub record Rolled (total last : ℕ) : Type 0 where
  pub times : ℕ
  pub is : total ≡ last + times * 4294967296

-- "differs from the last reading by a multiple", for each counter, over any calls from a fresh ledger.
pub total_rolls :
    (c : Counter) (sheets : List (List ℕ)) → Sheets sheets → Rolled ((behind_all fresh sheets).accounts c).total (last_of (readings c sheets))
unfolding readings
total_rolls c sheets o =
    let f = run_follows c sheets o fresh 0 [] follows_start in
    let t : ℕ = ((behind_all fresh sheets).accounts c).total in
    record { times = t / 4294967296; is = omega (arith, f.last_is, f.rolled) }
