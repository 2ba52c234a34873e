-- What the answers of this crate stand for, in the words of the meaning. Assumes nothing.
use Rattle.std.specs.Prelude.{ℕ, Bool, cond, not, List, ◌==◌, Option, None, Some, Result, Ok, Err}
use Rattle.meaning.specs.Answers as answering
use Rattle.meaning.specs.Ledger as meant
use Rattle.meaning.specs.Ledger.{Had, missing, had, reading_in, session_in, Counter, octets_in, octets_out, packets_in, packets_out, is_start, closes}
use Rattle.area.specs.declared.Refusal.{Refusal}
use Rattle.ledger.specs.declared.Kind.{Kind}
use Rattle.ledger.specs.declared.Kind.TheVariants.{Start, Stop, Interim}
use Rattle.ledger.specs.declared.Account.{Account}
use Rattle.ledger.specs.declared.Ledger.{Ledger}
use Rattle.ledger.specs.declared.Told.{Told}

-- a refusal by its number
abbrev pub refusal_as : (number : ℕ) → Refusal
refusal_as n = record { number = n; second = 0 }

-- ---- Accounts and ledgers, both ways

abbrev pub account_of : Account → meant.Account
account_of a = record { last = a.last; total = a.total }

abbrev pub account_as : meant.Account → Account
account_as a = record { last = a.last; total = a.total }

-- the account of each counter
abbrev pub accounts_of : Ledger → Counter → meant.Account
accounts_of l octets_in = account_of l.input_octets
accounts_of l octets_out = account_of l.output_octets
accounts_of l packets_in = account_of l.input_packets
accounts_of l packets_out = account_of l.output_packets

abbrev pub ledger_of : Ledger → meant.Ledger
ledger_of l = record { opened = l.opened; session = l.session; accounts = accounts_of l }

abbrev pub ledger_as : meant.Ledger → Ledger
ledger_as l =
    record {
      opened = l.opened;
      session = l.session;
      input_octets = account_as (l.accounts octets_in);
      output_octets = account_as (l.accounts octets_out);
      input_packets = account_as (l.accounts packets_in);
      output_packets = account_as (l.accounts packets_out);
    }

-- ---- What a sheet tells

-- a number that a sheet has or not, both ways
abbrev pub number_by : Had → Option ℕ
number_by missing = None
number_by (had n) = Some n

abbrev pub had_by : Option ℕ → Had
had_by None = missing
had_by (Some n) = had n

-- its readings and its session id
unfoldable pub told_of : (sheet : List ℕ) → Told
told_of sheet =
    record {
      input_octets = number_by (reading_in 42 sheet);
      output_octets = number_by (reading_in 43 sheet);
      session = number_by (session_in sheet);
      input_packets = number_by (reading_in 47 sheet);
      output_packets = number_by (reading_in 48 sheet);
    }

-- the reading of each counter
abbrev pub reading_of : Told → Counter → Had
reading_of t octets_in = had_by t.input_octets
reading_of t octets_out = had_by t.output_octets
reading_of t packets_in = had_by t.input_packets
reading_of t packets_out = had_by t.output_packets

-- ---- Kinds

abbrev pub kind_number : Kind → ℕ
kind_number Start = 2
kind_number Stop = 3
kind_number Interim = 6

-- the kind of a number, or 31
abbrev pub kind_by : (number : ℕ) → Result Kind Refusal
kind_by n = cond (n == 2) (Ok Start) (cond (n == 3) (Ok Stop) (cond (n == 6) (Ok Interim) (Err (refusal_as 31))))

-- ---- Answers

-- an account, or 33 where its total passes 64 bits
abbrev pub counted_as : meant.Account → Result Account Refusal
counted_as a = cond (meant.passes64 a) (Err (refusal_as 33)) (Ok (account_as a))

-- the next state, or a refusal
abbrev pub Booking : Type 0
Booking = Result Ledger Refusal

abbrev pub refused_as : (number : ℕ) → Booking
refused_as n = Err (refusal_as n)

-- the next state, or a refusal by its number and second number
abbrev pub booking_of : answering.Answer meant.Ledger → Booking
booking_of (answering.given l) = Ok (ledger_as l)
booking_of (answering.refused n s) = Err (record { number = n; second = s })

-- the accounts with the readings of a sheet
abbrev pub accounts_with : meant.Ledger → Told → Counter → meant.Account
accounts_with l t c = meant.counted (l.accounts c) (reading_of t c)

-- what comes of a STOP or an Interim by what it tells, behind which it is open or not: 33, or the next state
unfoldable pub added_by : meant.Ledger → (opened : Bool) → Told → Booking
added_by l opened t =
    cond (meant.too_much (accounts_with l t)) (refused_as 33)
    (Ok (ledger_as (record { opened = opened; session = l.session; accounts = accounts_with l t })))

-- what comes of a sheet by the session id that it has: 32, a session's beginning, or what is added
abbrev pub named_as : meant.Ledger → (kind : ℕ) → Told → Option ℕ → Booking
named_as l k t None = refused_as 32
named_as l k t (Some n) =
    cond (is_start k) (Ok (ledger_as (meant.begun (had n))))
    (cond (not (n == l.session)) (refused_as 32) (added_by l (not (closes k)) t))

unfoldable pub named_by : meant.Ledger → (kind : ℕ) → Told → Booking
named_by l k t = named_as l k t t.session
