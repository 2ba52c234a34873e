-- The code that the table carries for a kind and a number says what the presence lines say. Assumes nothing.
use mathlib.Core.Path.{◌≡◌, refl}
use mathlib.Core.Logic.{◌⊎◌, inl, ⊎_elim, ◌↔◌}
use mathlib.Core.Bool.{Bool, true, false, not, ◌&&◌, ◌||◌, beq}
use mathlib.Core.List.{[], ◌∷◌}
use Prim.Native.Nat.{ℕ, ◌<◌}
use native.Mathlib.Omega.{arith}
use lib.Dec.{T, eqb, leb, leb→le}
use Rattle.meaning.specs.Octets.{is_in}
use Rattle.meaning.specs.Jobs.{is_kind, Context, comes}
use Rattle.meaning.specs.Presence.{never_here, asks_class, not_permitted, mandatory, with_pap, with_chap, with_class, conditional}
use Rattle.meaning.specs.Codes.{code, code_bars, code_demands, code_wants}
use Rattle.meaning.proofs.Tests.{parts, in_among, among_in, below, below_at}

-- ---- Two lines that a computed test finds the same at every kind and number

same : (a b : Bool) → T (beq a b) → a ≡ b
same true true t = refl
same true false t = absurd t
same false true t = absurd t
same false false t = refl

-- the test over the kinds up to 6 and the numbers below 256; what is tested does not read the flags
abbrev agree : (f g : Context → ℕ → Bool) → Bool
agree f g = below 7 (λ kind. below 256 (λ n. beq (f (comes kind 0) n) (g (comes kind 0) n)))

module _ (c : Context) (n : ℕ) (k : T (is_kind c.kind)) (h : n < 256) where
  agree_at : (f g : Context → ℕ → Bool) → T (agree f g) → f (comes c.kind 0) n ≡ g (comes c.kind 0) n
  unfolding is_kind
  agree_at f g t =
      let kind = c.kind in
      let top : kind < 7 = omega (arith, leb→le kind 6 (parts (leb 1 kind) (leb kind 6) k).1) in
      let at_kind = below_at 7 (λ j. below 256 (λ m. beq (f (comes j 0) m) (g (comes j 0) m))) t kind top in
      same (f (comes kind 0) n) (g (comes kind 0) n)
      (below_at 256 (λ m. beq (f (comes kind 0) m) (g (comes kind 0) m)) at_kind n h)

  -- ---- What each code stands for

  says_mandatory : eqb (code c n) 1 ≡ mandatory c n
  unfolding code mandatory
  says_mandatory = agree_at (λ c n. eqb (code c n) 1) mandatory tt

  says_never : eqb (code c n) 2 ≡ never_here c.kind n
  unfolding code mandatory
  says_never = agree_at (λ c n. eqb (code c n) 2) (λ c. never_here c.kind) tt

  says_asked : is_in (code c n) (3 ∷ 4 ∷ []) ≡ asks_class c.kind n
  unfolding code mandatory
  says_asked = agree_at (λ c n. is_in (code c n) (3 ∷ 4 ∷ [])) (λ c. asks_class c.kind) tt

  says_class : eqb (code c n) 4 ≡ with_class c.kind n
  unfolding code mandatory
  says_class = agree_at (λ c n. eqb (code c n) 4) (λ c. with_class c.kind) tt

  says_pap : eqb (code c n) 5 ≡ with_pap c.kind n
  unfolding code mandatory
  says_pap = agree_at (λ c n. eqb (code c n) 5) (λ c. with_pap c.kind) tt

  says_chap : eqb (code c n) 6 ≡ with_chap c.kind n
  unfolding code mandatory
  says_chap = agree_at (λ c n. eqb (code c n) 6) (λ c. with_chap c.kind) tt

  says_name : eqb (code c n) 7 ≡ eqb n 4
  unfolding code mandatory
  says_name = agree_at (λ c n. eqb (code c n) 7) (λ c n. eqb n 4) tt

  -- ---- The rules by the code

  pub code_bars_lem : code_bars (code c n) c.flags ≡ not_permitted c n
  unfolding code_bars not_permitted
  code_bars_lem = rw (says_never, says_asked)

  pub code_demands_lem : code_demands (code c n) ≡ mandatory c n
  unfolding code_demands
  code_demands_lem = says_mandatory

  pub code_wants_lem : (named : Bool) → code_wants (code c n) c.flags named ≡ conditional c n || (eqb n 4 && not named)
  unfolding code_wants conditional
  code_wants_lem named = rw (says_pap, says_chap, says_class, says_name)

-- ---- ON and OFF: request 1

-- In kinds 4 and 5 the number 40 is mandatory, and no other.
pub status_alone : (c : Context) → (c.kind ≡ 4) ⊎ (c.kind ≡ 5) → (n : ℕ) → T (mandatory c n) ↔ (n ≡ 40)
unfolding mandatory
status_alone c k n = ⊎_elim (λ q. rw q alone) (λ q. rw q alone) k
  where
    alone : T (is_in n (40 ∷ [])) ↔ (n ≡ 40)
    alone = (λ t. ⊎_elim (λ e. e) absurd (in_among n (40 ∷ []) t), λ e. among_in n (40 ∷ []) (inl e))
