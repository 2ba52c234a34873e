-- Request 2, "Usage ledger": what a sheet tells it, one call on any state, and the readings of a run of calls. Assumes nothing.
use Rattle.std.specs.Prelude.{ℕ, ◌+◌, ◌-◌, ◌%◌, Bool, true, false, cond, not, ◌&&◌, ◌||◌, List, [], ◌∷◌, ◌++◌, eqb, ltb}
use Rattle.meaning.specs.Octets.{is_in, number_of, pack, values}
use Rattle.meaning.specs.Versions.{Version}
use Rattle.meaning.specs.Framing.{Attribute, attributes}
use Rattle.meaning.specs.Refusals.{Refusal, none, refusal, when, first}
use Rattle.meaning.specs.Sheet.{form, items_in, version_in, kind_in, judged}
use Rattle.meaning.specs.Answers.{Answer, given, refused, unless}

-- ---- What a sheet tells

-- a number that a sheet has, or that is missing in it
pub data Had : Type 0 where
  missing : Had
  had : (number : ℕ) → Had

-- "first item of that number", if in a form: what is read of its value
unfoldable pub first_in : Version → (number form : ℕ) → (List ℕ → ℕ) → List Attribute → Had
first_in ver n f read [] = missing
first_in ver n f read (a ∷ l) =
    cond (eqb a.number n) (cond (eqb (form ver n a.value) f) (had (read a.value)) missing) (first_in ver n f read l)

-- "A sheet's reading", of the plain number of a counter: form 2
unfoldable pub reading_in : (number : ℕ) (sheet : List ℕ) → Had
reading_in n sheet = first_in (version_in sheet) n 2 number_of (attributes (items_in sheet))

-- "The session id": the octets that the digits of 44 stand for, as one number; form 5
unfoldable pub session_in : (sheet : List ℕ) → Had
session_in sheet = first_in (version_in sheet) 44 5 (λ v. number_of (pack (values v))) (attributes (items_in sheet))

-- ---- The state

-- "counters of 32 bits": Acct-Input-Octets, Acct-Output-Octets, Acct-Input-Packets, Acct-Output-Packets
pub data Counter : Type 0 where
  octets_in : Counter
  octets_out : Counter
  packets_in : Counter
  packets_out : Counter

-- "Attributes 42, 43, 47 and 48"
abbrev pub counter_number : Counter → ℕ
counter_number octets_in = 42
counter_number octets_out = 43
counter_number packets_in = 47
counter_number packets_out = 48

-- what is kept of a counter: the last reading had, and "a 64-bit total"
pub record Account : Type 0 where
  pub last : ℕ
  pub total : ℕ

-- the ledger: whether a session is open, its id, and an account of each counter
pub record Ledger : Type 0 where
  pub opened : Bool
  pub session : ℕ
  pub accounts : Counter → Account

-- a START's account, "reading 0" and the total cleared
abbrev pub cleared : Account
cleared = record { last = 0; total = 0 }

-- "a fresh ledger, all zero"
abbrev pub fresh : Ledger
fresh = record { opened = false; session = 0; accounts = λ c. cleared }

-- ---- A call

-- "the later reading minus the earlier", modulo 4,294,967,296
unfoldable pub gap : (earlier later : ℕ) → ℕ
gap a b = (b + 4294967296 - a) % 4294967296

-- an account with a reading; "a sheet without one adds nothing"
unfoldable pub counted : Account → Had → Account
counted a missing = a
counted a (had r) = record { last = r; total = a.total + gap a.last r }

-- START, "a STOP closes", Interim
abbrev pub is_start : (kind : ℕ) → Bool
is_start k = eqb k 2

abbrev pub closes : (kind : ℕ) → Bool
closes k = eqb k 3

-- "A START", which has the id of its session
unfoldable pub begun : Had → Ledger
begun missing = fresh
begun (had id) = record { opened = true; session = id; accounts = λ c. cleared }

-- a STOP or an Interim, which adds its readings
unfoldable pub added : Ledger → (sheet : List ℕ) → Ledger
added l sheet =
    record {
      opened = not (closes (kind_in sheet));
      session = l.session;
      accounts = λ c. counted (l.accounts c) (reading_in (counter_number c) sheet);
    }

-- the ledger with a sheet that is accepted
unfoldable pub booked : Ledger → (sheet : List ℕ) → Ledger
booked l sheet = cond (is_start (kind_in sheet)) (begun (session_in sheet)) (added l sheet)

-- 30: "not a writable sheet", by 20 to 24
abbrev pub unwritable : Refusal → Refusal
unwritable none = none
unwritable (refusal n s) = refusal 30 0

-- 31: "kind not START, STOP or Interim", a START when open, or another when not
unfoldable pub out_of_turn : (opened : Bool) (kind : ℕ) → Bool
out_of_turn opened k = not (is_in k (2 ∷ 3 ∷ 6 ∷ [])) || cond (is_start k) opened (not opened)

-- 32: "missing or unlike the opening one"
unfoldable pub unlike : (kind opening : ℕ) → Had → Bool
unlike k opening missing = true
unlike k opening (had id) = not (is_start k) && not (eqb id opening)

-- 33: a total passes 64 bits
abbrev pub passes64 : Account → Bool
passes64 a = ltb 18446744073709551615 a.total

unfoldable pub too_much : (Counter → Account) → Bool
too_much a = passes64 (a octets_in) || (passes64 (a octets_out) || (passes64 (a packets_in) || passes64 (a packets_out)))

-- "Refusals, in order": the first of 30 to 33 that applies
unfoldable pub ledger_refusal : Ledger → (sheet : List ℕ) → Refusal
ledger_refusal l sheet =
    first (unwritable (judged sheet))
    (first (when (out_of_turn l.opened (kind_in sheet)) 31 0)
    (first (when (unlike (kind_in sheet) l.session (session_in sheet)) 32 0)
    (when (too_much (booked l sheet).accounts) 33 0)))

-- what a call is answered: the next state, or the first refusal that applies
unfoldable pub book_answer : Ledger → (sheet : List ℕ) → Answer Ledger
book_answer l sheet = unless (ledger_refusal l sheet) (booked l sheet)

-- the state behind an answer; where it is refused, "state unchanged"
abbrev pub state_by : Ledger → Answer Ledger → Ledger
state_by l (given m) = m
state_by l (refused n s) = l

-- ---- "over any calls"

-- the state behind a call, and behind any calls
abbrev pub behind : Ledger → (sheet : List ℕ) → Ledger
behind l sheet = state_by l (book_answer l sheet)

unfoldable pub behind_all : Ledger → (sheets : List (List ℕ)) → Ledger
behind_all l [] = l
behind_all l (s ∷ r) = behind_all (behind l s) r

-- a sheet that a call accepts, alone or no sheet at all
abbrev pub unless_refused : (sheet : List ℕ) → Refusal → List (List ℕ)
unless_refused s none = s ∷ []
unless_refused s (refusal n k) = []

-- the sheets that are accepted, in order
unfoldable pub accepted : Ledger → (sheets : List (List ℕ)) → List (List ℕ)
accepted l [] = []
accepted l (s ∷ r) = unless_refused s (ledger_refusal l s) ++ accepted (behind l s) r

-- the reading of a sheet, alone or none at all
abbrev pub alone : Had → List ℕ
alone missing = []
alone (had r) = r ∷ []

-- the readings of accepted sheets behind earlier ones; "A START counts as reading 0", and those before it count no more
unfoldable pub readings_on : (number : ℕ) (earlier : List ℕ) (sheets : List (List ℕ)) → List ℕ
readings_on n l [] = l
readings_on n l (s ∷ r) = readings_on n (cond (is_start (kind_in s)) (0 ∷ []) (l ++ alone (reading_in n s))) r

-- the readings of a counter that a run from a fresh ledger has had "since the last accepted START"; before the first there is 0 alone
unfoldable pub readings : Counter → (sheets : List (List ℕ)) → List ℕ
readings c sheets = readings_on (counter_number c) (0 ∷ []) (accepted fresh sheets)

-- "the sum over the accepted neighbouring readings", of the later minus the earlier
unfoldable pub usage : List ℕ → ℕ
usage [] = 0
usage (a ∷ []) = 0
usage (a ∷ b ∷ l) = gap a b + usage (b ∷ l)

-- "the last reading"
unfoldable pub last_of : List ℕ → ℕ
last_of [] = 0
last_of (a ∷ []) = a
last_of (a ∷ b ∷ l) = last_of (b ∷ l)
