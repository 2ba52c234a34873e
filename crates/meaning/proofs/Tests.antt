-- What the Boolean tests that the definitions are made of say. Assumes nothing.
use mathlib.Core.Path.{◌≡◌, refl, sym, ap₂, subst}
use mathlib.Core.Logic.{◌⊎◌, inl, inr, ⊎_elim}
use mathlib.Core.Bool.{Bool, true, false, ◌&&◌, ◌||◌}
use mathlib.Core.List.{List, [], ◌∷◌}
use Prim.Native.Nat.{ℕ, zero, suc, ◌<◌}
use native.Mathlib.Omega.{arith}
use native.Mathlib.Decide.{ℕ_discrete}
use lib.Dec.{T, eqb, eqb→eq, eqb_refl}
use Rattle.meaning.specs.Octets.{is_in, all, same}
use Rattle.meaning.specs.Breaches.{Among}

-- both tests pass
pub both : (a b : Bool) → T a → T b → T (a && b)
both true b s t = t
both false b s t = s

pub parts : (a b : Bool) → T (a && b) → T a × T b
parts true b t = (tt, t)
parts false b t = absurd t

-- one of two tests passes
pub either : (a b : Bool) → T (a || b) → T a ⊎ T b
either true b t = inl tt
either false b t = inr t

pub left_or : (a b : Bool) → T a → T (a || b)
left_or true b t = tt
left_or false b t = absurd t

pub right_or : (a b : Bool) → T b → T (a || b)
right_or true b t = tt
right_or false b t = t

-- a test that passes is true
pub is_true : (b : Bool) → T b → b ≡ true
is_true true t = refl
is_true false t = absurd t

-- a true test passes
pub passes : (b : Bool) → b ≡ true → T b
passes b e = subst T (sym e) tt

-- no test is both true and false
pub not_both : {X : Type 0} → true ≡ false → X
not_both e = absurd (subst T e tt)

-- lists that test the same are the same
pub same_one : (l m : List ℕ) → T (same l m) → l ≡ m
same_one [] [] t = refl
same_one [] (y ∷ m) t = absurd t
same_one (x ∷ l) [] t = absurd t
same_one (x ∷ l) (y ∷ m) t =
    let b = parts (eqb x y) (same l m) t in
    ap₂ ◌∷◌ (eqb→eq x y b.0) (same_one l m b.1)

pub same_itself : (l : List ℕ) → T (same l l)
same_itself [] = tt
same_itself (x ∷ l) = both (eqb x x) (same l l) (eqb_refl x) (same_itself l)

-- one of a list
pub in_among : (n : ℕ) (l : List ℕ) → T (is_in n l) → Among n l
in_among n [] t = t
in_among n (x ∷ l) t =
    ⊎_elim (λ u. inl (eqb→eq n x u)) (λ u. inr (in_among n l u)) (either (eqb n x) (is_in n l) t)

pub among_in : (n : ℕ) (l : List ℕ) → Among n l → T (is_in n l)
among_in n [] m = m
among_in n (x ∷ l) (inl p) = left_or (eqb n x) (is_in n l) (rw p (eqb_refl x))
among_in n (x ∷ l) (inr m) = right_or (eqb n x) (is_in n l) (among_in n l m)

-- a test that passes at each of a list passes at one of it
pub all_at : (p : ℕ → Bool) (l : List ℕ) → T (all p l) → (n : ℕ) → Among n l → T (p n)
all_at p [] t n m = absurd m
all_at p (x ∷ l) t n (inl q) = rw q (parts (p x) (all p l) t).0
all_at p (x ∷ l) t n (inr m) = all_at p l (parts (p x) (all p l) t).1 n m

-- one of l is one of m, where a test finds each of l in m
pub in_within : (n : ℕ) (l m : List ℕ) → T (all (λ x. is_in x m) l) → T (is_in n l) → Among n m
in_within n l m t u = in_among n m (all_at (λ x. is_in x m) l t n (in_among n l u))

-- the test passes at each number below k
abbrev pub below : (k : ℕ) → (ℕ → Bool) → Bool
below zero p = true
below (suc k) p = p k && below k p

pub below_at : (k : ℕ) (p : ℕ → Bool) → T (below k p) → (n : ℕ) → n < k → T (p n)
below_at zero p t n h = absurd (omega arith)
below_at (suc k) p t n h =
    let b = parts (p k) (below k p) t in
    elim (ℕ_discrete n k) [ yes e ↦ rw e b.0 | no f ↦ below_at k p b.1 n (omega arith) ]
