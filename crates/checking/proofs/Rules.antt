-- The lines of rules 3 and 4 and the entry, as the code tests and makes them. Assumes nothing.
use mathlib.Core.Path.{◌≡◌, refl, sym, ap, ◌∙◌}
use mathlib.Core.Bool.{Bool, true, false, not, ◌&&◌, ◌||◌, and-false, or-false}
use mathlib.Core.List.{List}
use Prim.Native.Nat.{ℕ, ◌+◌, ◌*◌, ◌-◌, ◌≤◌, ◌<◌}
use native.Mathlib.Omega.{arith}
use lib.Dec.{eqb, leb}
use lib.ListN.{get_or}
use borrow.Author.Tests.{lt-ltb, le-ltb, le-leb, lt-leb, eqb-true, ne_eqb}
use Rattle.meaning.specs.Octets.{between}
use Rattle.meaning.specs.Jobs.{Context}
use Rattle.meaning.specs.Framing.{gpp}
use Rattle.meaning.specs.Presence.{not_permitted}
use Rattle.meaning.specs.Codes.{code_bars}
use Rattle.meaning.specs.Breaches.{entry, once_only, barred, is_listed3gpp}
use Rattle.meaning.proofs.Presence.{code_bars_lem}
use Rattle.checking.specs.Table.{Known, Row}
use Rattle.checking.specs.Lists.{search_end}
use Rattle.checking.proofs.Rows.{known_kind}

-- ---- Rule 3

-- the number stands once only, or may stand again
module _ (n place : ℕ) (once : Bool) (o : once ≡ once_only n) where
  pub end_at_place : once ≡ true → place ≡ search_end n place
  unfolding search_end
  end_at_place e = rw (sym o ∙ e)

  pub end_at_once : once ≡ false → 0 ≡ search_end n place
  unfolding search_end
  end_at_once e = rw (sym o ∙ e)

-- ---- Rule 4

-- a plain number is no 3GPP one
plain_unlisted : (n : ℕ) → n < 256 → is_listed3gpp n ≡ false
plain_unlisted n h = rw (lt-leb (gpp 1) n (omega arith), ne_eqb n (gpp 18) (λ e. omega arith))

pub barred_plain : (c : Context) (n : ℕ) (codes : List ℕ) (bars : Bool) → Known c.kind → Row c codes → n < 256
    → bars ≡ code_bars (get_or codes n 0) c.flags → bars ≡ barred c n
unfolding barred
barred_plain c n codes bars k r h e =
    e ∙ ap (λ (code : ℕ). code_bars code c.flags) (r.says n h) ∙ code_bars_lem c n (known_kind c.kind k) h
    ∙ simp (ne_eqb n (gpp 11) (λ p. omega arith), plain_unlisted n h, and-false)

-- a code below 2 bars nothing
pub low_code : (code flags : ℕ) → code < 2 → false ≡ code_bars code flags
unfolding code_bars
low_code c flags h =
    simp (ne_eqb c 2 (λ e. omega arith), ne_eqb c 3 (λ e. omega arith), ne_eqb c 4 (λ e. omega arith))

-- a 3GPP number is in no plain line
gpp_permitted : (c : Context) (n : ℕ) → 256 ≤ n → not_permitted c n ≡ false
unfolding not_permitted
gpp_permitted c n h =
    let no : (k : ℕ) → k < 256 → eqb n k ≡ false = λ k g. ne_eqb n k (λ e. omega arith) in
    simp (no 2 (omega arith), no 3 (omega arith), no 18 (omega arith), no 24 (omega arith), no 25 (omega arith), and-false)

-- 3GPP 11
pub barred_11 : (c : Context) (n : ℕ) → n ≡ gpp 11 → not (eqb c.kind 3) ≡ barred c n
unfolding barred
barred_11 c n e = rw (e, gpp_permitted c (gpp 11) (omega arith)) (go (eqb c.kind 3) refl)
  where
    go : (b : Bool) → eqb c.kind 3 ≡ b → not b ≡ not b || ((between 4 5 c.kind && true) || false)
    go true s = rw (eqb-true c.kind 3 s)
    go false s = refl

-- another 3GPP number, in kinds 1 to 3 and in the others
module _ (c : Context) (n : ℕ) (high : 256 ≤ n) (other : n ≡ gpp 11 → ⊥) where
  pub barred_early : c.kind < 4 → false ≡ barred c n
  unfolding barred
  barred_early k = simp (ne_eqb n (gpp 11) other, lt-leb 4 c.kind k, gpp_permitted c n high)

  pub barred_late : (listed : Bool) → 4 ≤ c.kind → listed ≡ is_listed3gpp n → leb c.kind 5 && listed ≡ barred c n
  unfolding barred
  barred_late listed k e = simp (e, ne_eqb n (gpp 11) other, le-leb 4 c.kind k, gpp_permitted c n high, or-false)

-- ---- The entry

pub entry_plain : (place rule n : ℕ) → n < 256 → place * 1048576 + (rule * 65536 + n * 256) ≡ entry place rule n
unfolding entry
entry_plain place rule n h = rw (lt-ltb n 256 h) (omega arith)

pub entry_3gpp : (place rule n : ℕ) → 256 ≤ n → place * 1048576 + (rule * 65536 + (6656 + (n - 256))) ≡ entry place rule n
unfolding entry
entry_3gpp place rule n h = rw (le-ltb n 256 h) (omega arith)
