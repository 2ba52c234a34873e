-- A test at each of a list, by a loop from the left or from the end, one by one or by parts: once over the test. Assumes nothing.
use mathlib.Core.Path.{◌≡◌, refl, sym, ap, ap₂, ◌∙◌}
use mathlib.Core.Bool.{Bool, true, false, ◌&&◌, and-true, and-false, and_assoc}
use mathlib.Core.List.{List, [], ◌∷◌, ◌++◌}
use Prim.Native.Nat.{ℕ, zero, suc, ◌+◌, ◌*◌, ◌-◌, ◌%◌, ◌<◌, ◌≤◌}
use native.Mathlib.Omega.{arith}
use lib.Dec.{T}
use lib.ListN.{length, take, drop, get_or}
use lib.Seq.{take-add}
use native.Mathlib.Nat.{zero-mul, suc-mul}
use Rattle.std.specs.List.{fold, list_all}
use Rattle.std.specs.Simd.{first_chunks}
use Rattle.meaning.specs.Octets.{all}

-- the test of two lists, one behind the other, is that of both
pub all_append : (p : ℕ → Bool) (s t : List ℕ) → all p (s ++ t) ≡ all p s && all p t
all_append p [] t = refl
all_append p (x ∷ s) t = ap (λ (b : Bool). p x && b) (all_append p s t) ∙ sym (and_assoc (p x) (all p s) (all p t))

-- ---- From the left

-- the test folded over a list
fold_from : (p : ℕ → Bool) (ok : Bool) (l : List ℕ) → fold (λ b x. b && p x) ok l ≡ ok && all p l
fold_from p ok [] = sym (and-true ok)
fold_from p ok (x ∷ l) = fold_from p (ok && p x) l ∙ and_assoc ok (p x) (all p l)

pub fold_all : (p : ℕ → Bool) (l : List ℕ) → fold (λ b x. b && p x) true l ≡ all p l
fold_all p l = fold_from p true l

-- tests that pass together are the same
pub same_test : (a b : Bool) → (T a → T b) → (T b → T a) → a ≡ b
same_test true true h g = refl
same_test true false h g = absurd (h tt)
same_test false true h g = absurd (g tt)
same_test false false h g = refl

-- ok is the test of the first i, so the test of all is ok with that of the rest
pub record Tested (p : ℕ → Bool) (s : List ℕ) (i : ℕ) (ok : Bool) : Type 0 where
  pub rest : all p s ≡ ok && all p (drop i s)

-- one that fails decides, wherever it stands
pub one_fails : (p : ℕ → Bool) (s : List ℕ) (i : ℕ) → i < length s → p (get_or s i 0) ≡ false → all p s ≡ false
one_fails p [] i h e = absurd (omega arith)
one_fails p (x ∷ s) zero h e = rw e
one_fails p (x ∷ s) (suc i) h e = rw (one_fails p s i (omega arith) e) (and-false (p x))

-- a start and an end that leave nothing out
pub all_covered : (p : ℕ → Bool) (s : List ℕ) (j k : ℕ) → j ≤ k → all p (take k s) && all p (drop j s) ≡ all p s
all_covered p [] zero zero h = refl
all_covered p [] zero (suc k) h = refl
all_covered p [] (suc j) zero h = refl
all_covered p [] (suc j) (suc k) h = refl
all_covered p (x ∷ s) zero zero h = refl
all_covered p (x ∷ s) zero (suc k) h = twice (p x) (all p (take k s)) (all p s) (all_covered p s zero k (omega arith))
  where
    twice : (a b c : Bool) → b && c ≡ c → (a && b) && (a && c) ≡ a && c
    twice true b c e = e
    twice false b c e = refl
all_covered p (x ∷ s) (suc j) zero h = absurd (omega arith)
all_covered p (x ∷ s) (suc j) (suc k) h = and_assoc (p x) (all p (take k s)) (all p (drop j s)) ∙ ap (λ (b : Bool). p x && b) (all_covered p s j k (omega arith))

-- The test of parts of n octets each is that of all that stand in them.
all_chunks : (p : ℕ → Bool) (n k : ℕ) (s : List ℕ) → list_all (all p) (first_chunks n k s) ≡ all p (take (k * n) s)
all_chunks p n zero s = rw (zero-mul n)
all_chunks p n (suc k) s =
    let size : suc k * n ≡ n + k * n = rw (suc-mul k n) (omega arith) in
    ap (λ (b : Bool). all p (take n s) && b) (all_chunks p n k (drop n s))
    ∙ sym (ap (λ (m : ℕ). all p (take m s)) size ∙ ap (all p) (take-add n (k * n) s) ∙ all_append p (take n s) (take (k * n) (drop n s)))

-- With a last part, some of which may be tested already, they leave nothing out.
pub chunks_last : (p : ℕ → Bool) (s last : List ℕ) (parts : List (List ℕ)) (n k : ℕ) → parts ≡ first_chunks n k s → length s - n ≤ k * n
    → last ≡ drop (length s - n) s → (a b : Bool) → a ≡ list_all (all p) parts → b ≡ all p last → a && b ≡ all p s
chunks_last p s last parts n k e h l a b ea eb =
    ap₂ ◌&&◌ (ea ∙ ap (list_all (all p)) e ∙ all_chunks p n k s) (eb ∙ ap (all p) l) ∙ all_covered p s (length s - n) (k * n) h

-- ---- From the end, by twos

-- all from i on pass, and an even count stands before them
pub record Ended (p : ℕ → Bool) (s : List ℕ) (i : ℕ) : Type 0 where
  pub even : i % 2 ≡ 0
  pub within : i ≤ length s
  pub rest : all p (drop i s) ≡ true
