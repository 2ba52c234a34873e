-- The numbers that the lines of the definitions name have the shape of their line, and any other number has none. Assumes nothing.
use mathlib.Core.Path.{◌≡◌, refl, sym, ap, subst, ◌∙◌}
use mathlib.Core.Logic.{◌⊎◌, inl, inr, ⊎_elim}
use mathlib.Core.Bool.{Bool, true, false, cond, not, ◌||◌, and-false}
use mathlib.Core.List.{List, [], ◌∷◌, ◌++◌, map}
use Prim.Native.Nat.{ℕ, zero, suc, ◌+◌, ◌-◌, ◌<◌, ◌≤◌}
use native.Mathlib.Omega.{arith}
use lib.Dec.{T, eqb, ltb, eqb→eq}
use lib.ListN.{get_or}
use borrow.Author.Tests.{eq-eqb, ne_eqb, eqb-true, le-ltb, lt-leb, ltb-true, ltb-false}
use types.Run.{OneOf}
use Rattle.meaning.specs.Octets.{is_in}
use Rattle.meaning.specs.Shapes.{Shape, number, address, digits, hexadecimal, qos, hex_digit, any_octet, decimal_digit, at_least, exactly}
use Rattle.meaning.specs.Shapes.{blocks, free, plain_shape, gpp_shape, shape_of}
use Rattle.meaning.specs.Sheet.{form_of}
use Rattle.meaning.proofs.Tests.{below, below_at}
use Rattle.shape.specs.Codes.{code_of, shape_by}
use Rattle.shape.proofs.Codes.{shape_back, PastArms, past_before, alone, Past}

-- ---- The numbers of a match

-- the numbers of some arms
abbrev pub named : List (List ℕ) → List ℕ
named [] = []
named (l ∷ arms) = l ++ named arms

-- a number behind an arm is none of its numbers
not_one : (n : ℕ) (l rest : List ℕ) → (OneOf l n → ⊥) → is_in n rest ≡ false → is_in n (l ++ rest) ≡ false
not_one n [] rest past other = other
not_one n (x ∷ []) rest past other = rw (ne_eqb n x past) other
not_one n (x ∷ y ∷ l) rest past other = rw (ne_eqb n x (λ e. past (inl e))) (not_one n (y ∷ l) rest (λ o. past (inr o)) other)

-- a number behind the arms of a match is in none of them
pub past_not_in : (before : Type 0) (n : ℕ) (arms : List (List ℕ)) → PastArms before n arms → is_in n (named arms) ≡ false
past_not_in before n [] p = refl
past_not_in before n (l ∷ arms) p =
    not_one n l (named arms) (past_before (before × (OneOf l n → ⊥)) n arms p).1 (past_not_in (before × (OneOf l n → ⊥)) n arms p)

-- What is 0 behind the arms of a match: what is so below a bound, by computing, and from it on.
none_other : (f : ℕ → ℕ) (arms : List (List ℕ)) (bound : ℕ) → T (below bound (λ n. is_in n (named arms) || eqb (f n) 0))
    → ((n : ℕ) → bound ≤ n → f n ≡ 0) → (n : ℕ) → PastArms (Unit {0}) n arms → f n ≡ 0
none_other f arms bound t above n p = go (ltb n bound) refl
  where
    go : (less : Bool) → ltb n bound ≡ less → f n ≡ 0
    go true e =
        let known = below_at bound (λ (k : ℕ). is_in k (named arms) || eqb (f k) 0) t n (ltb-true n bound e) in
        eqb→eq (f n) 0 (subst (λ (b : Bool). T (b || eqb (f n) 0)) (past_not_in (Unit {0}) n arms p) known)
    go false e = above n (ltb-false n bound e)

-- ---- The numbers above all that a line names

-- a number from a bound on is none below it
from : (bound n : ℕ) → bound ≤ n → (k : ℕ) → eqb n k ≡ cond (ltb k bound) false (eqb n k)
from bound n h k = go (ltb k bound) refl
  where
    go : (less : Bool) → ltb k bound ≡ less → eqb n k ≡ cond less false (eqb n k)
    go true e = ne_eqb n k (λ same. omega (arith, ltb-true k bound e))
    go false e = refl

plain_above : (t : ℕ) → 62 ≤ t → plain_shape t ≡ free
unfolding plain_shape
plain_above t h = simp (from 62 t h, lt-leb t 43 (omega arith), lt-leb t 49 (omega arith), and-false)

gpp_above : (s : ℕ) → 19 ≤ s → gpp_shape s ≡ free
unfolding gpp_shape
gpp_above s h = simp (from 19 s h)

above : (n : ℕ) → 275 ≤ n → shape_of n ≡ free
unfolding shape_of
above n h = rw (le-ltb n 256 (omega arith)) (gpp_above (n - 256) (omega arith))

-- ---- The code of a plain and of a 3GPP number

-- the plain numbers that a line names
abbrev pub plain_numbers : List ℕ
plain_numbers = 1 ∷ 2 ∷ 3 ∷ 4 ∷ 6 ∷ 7 ∷ 8 ∷ 9 ∷ 18 ∷ 24 ∷ 25 ∷ 30 ∷ 31 ∷ 32 ∷ 40 ∷ 41 ∷ 42 ∷ 43 ∷ 44 ∷ 45 ∷ 46 ∷ 47 ∷ 48 ∷ 49 ∷ 60 ∷ 61 ∷ []

pub plain_other : (t : ℕ) → Past (Unit {0}) t plain_numbers → code_of (plain_shape t) ≡ 0
unfolding plain_shape code_of
plain_other = none_other (λ t. code_of (plain_shape t)) (alone plain_numbers) 62 tt (λ t h. rw (plain_above t h))

-- the 3GPP numbers that a line names
abbrev pub gpp_numbers : List ℕ
gpp_numbers = 1 ∷ 2 ∷ 3 ∷ 4 ∷ 5 ∷ 6 ∷ 7 ∷ 8 ∷ 9 ∷ 10 ∷ 11 ∷ 12 ∷ 18 ∷ []

pub gpp_other : (s : ℕ) → Past (Unit {0}) s gpp_numbers → code_of (gpp_shape s) ≡ 0
unfolding gpp_shape code_of
gpp_other = none_other (λ s. code_of (gpp_shape s)) (alone gpp_numbers) 19 tt (λ s h. rw (gpp_above s h))

-- ---- The shape of a carried number

-- an arm: a shape, and numbers that have it
abbrev pub Arm : Type 0
Arm = Shape × List ℕ

-- the carried numbers of the length rules, the even and the odd ones of a shape apart
abbrev pub rule_arms : List Arm
rule_arms =
    (at_least 1, 1 ∷ 25 ∷ [])
    ∷ (at_least 1, 18 ∷ 24 ∷ 30 ∷ 32 ∷ [])
    ∷ (at_least 5, 60 ∷ [])
    ∷ (exactly 17, 3 ∷ [])
    ∷ (blocks, 2 ∷ [])
    ∷ []

-- those of the shapes that have a form of their own: numbers and addresses, digits, and the others
abbrev four_arms : List Arm
four_arms =
    (number, 6 ∷ 40 ∷ 42 ∷ 46 ∷ 48 ∷ 258 ∷ [])
    ∷ (number, 7 ∷ 41 ∷ 43 ∷ 45 ∷ 47 ∷ 49 ∷ 61 ∷ 259 ∷ [])
    ∷ (address, 4 ∷ 8 ∷ 260 ∷ 262 ∷ [])
    ∷ (address, 9 ∷ 263 ∷ [])
    ∷ []

abbrev digit_arms : List Arm
digit_arms =
    (digits 1 15, 31 ∷ 257 ∷ [])
    ∷ (digits 5 6, 264 ∷ 274 ∷ [])
    ∷ (digits 5 6, 265 ∷ [])
    ∷ []

abbrev text_arms : List Arm
text_arms =
    (hexadecimal, 44 ∷ [])
    ∷ (qos, 261 ∷ [])
    ∷ (hex_digit, 266 ∷ [])
    ∷ (any_octet, 267 ∷ [])
    ∷ (decimal_digit, 268 ∷ [])
    ∷ []

abbrev pub form_arms : List Arm
form_arms = four_arms ++ (digit_arms ++ text_arms)

-- the numbers of arms
abbrev pub numbers_of : List Arm → List (List ℕ)
numbers_of = map (λ (a : Arm). a.1)

-- the shapes of these numbers, and what they are to be
abbrev found : List Arm → List (List Shape)
found = map (λ (a : Arm). map shape_of a.1)

abbrev asked : List Arm → List (List Shape)
asked = map (λ (a : Arm). map (λ k. a.0) a.1)

-- the numbers of the arms that make items: those of digits stand in one, and its neighbours 264 and 265 come behind all arms
abbrev pub item_numbers : List (List ℕ)
item_numbers = numbers_of four_arms ++ ((31 ∷ 257 ∷ 274 ∷ []) ∷ numbers_of text_arms)

-- the arm at a place in the order of the text, from 0 on
abbrev pub arm_at : List Arm → ℕ → Arm
arm_at arms k = get_or arms k (free, [])

one_shape : (s : Shape) (l : List ℕ) (n : ℕ) → map shape_of l ≡ map (λ k. s) l → OneOf l n → shape_of n ≡ s
one_shape s [] n e o = absurd o
one_shape s (x ∷ []) n e o = let here : shape_of x ≡ s = cc in ap shape_of o ∙ here
one_shape s (x ∷ y ∷ l) n e o =
    let here : shape_of x ≡ s = cc in
    let later : map shape_of (y ∷ l) ≡ map (λ k. s) (y ∷ l) = cc in
    ⊎_elim (λ i. ap shape_of i ∙ here) (one_shape s (y ∷ l) n later) o

-- a number that comes to an arm has the arm's shape
in_arm : (arms : List Arm) → found arms ≡ asked arms → (k n : ℕ) → OneOf (arm_at arms k).1 n → shape_of n ≡ (arm_at arms k).0
in_arm [] e k n o = absurd o
in_arm (a ∷ arms) e zero n o = let here : map shape_of a.1 ≡ map (λ k. a.0) a.1 = cc in one_shape a.0 a.1 n here o
in_arm (a ∷ arms) e (suc k) n o = let later : found arms ≡ asked arms = cc in in_arm arms later k n o

pub in_form : (k n : ℕ) → OneOf (arm_at form_arms k).1 n → shape_of n ≡ (arm_at form_arms k).0
unfolding shape_of plain_shape gpp_shape
in_form = in_arm form_arms refl

pub in_shape : (k n : ℕ) → OneOf (arm_at (rule_arms ++ form_arms) k).1 n → shape_of n ≡ (arm_at (rule_arms ++ form_arms) k).0
unfolding shape_of plain_shape gpp_shape
in_shape = in_arm (rule_arms ++ form_arms) refl

-- A number in none of all arms has no shape.
pub shape_other : (n : ℕ) → PastArms (Unit {0}) n (numbers_of (rule_arms ++ form_arms)) → shape_of n ≡ free
unfolding shape_of plain_shape gpp_shape code_of shape_by
shape_other n p =
    let code_is : code_of (shape_of n) ≡ 0 =
    none_other (λ k. code_of (shape_of k)) (numbers_of (rule_arms ++ form_arms)) 275 tt (λ k h. rw (above k h)) n p in
    sym (shape_back n) ∙ ap shape_by code_is

-- ---- A test of the shapes of numbers

-- a test passes at the shape of each number from one to below another, but for some numbers
abbrev passes_in : (Shape → Bool) → (but : List ℕ) (from to : ℕ) → Bool
passes_in p but from to = below (to - from) (λ k. is_in (from + k) but || p (shape_of (from + k)))

module _ (p : Shape → Bool) (but : List ℕ) (from : ℕ) where
  passes_in_lem : (to : ℕ) → T (passes_in p but from to) → (n : ℕ) → is_in n but ≡ false → from ≤ n → n < to → T (p (shape_of n))
  passes_in_lem to t n out low high =
      let e : from + (n - from) ≡ n = omega arith in
      subst (λ (b : Bool). T (b || p (shape_of n))) out
      (subst (λ (k : ℕ). T (is_in k but || p (shape_of k))) e (below_at (to - from) (λ (k : ℕ). is_in (from + k) but || p (shape_of (from + k))) t (n - from) (omega arith)))

  -- and so from a number on
  passes_from : T (p free) → T (passes_in p but from 275) → (n : ℕ) → is_in n but ≡ false → from ≤ n → T (p (shape_of n))
  passes_from f t n out low = go (ltb n 275) refl
    where
      go : (less : Bool) → ltb n 275 ≡ less → T (p (shape_of n))
      go true e = passes_in_lem 275 t n out low (ltb-true n 275 e)
      go false e = subst (λ (s : Shape). T (p s)) (sym (above n (ltb-false n 275 e))) f

-- ---- The numbers of items

-- n is none of the numbers in the arms that make items
module _ (n : ℕ) (p : PastArms (Unit {0}) n item_numbers) where
  -- From 257 to 265 it is one of digits.
  pub digits_behind : 257 ≤ n → n < 266 → form_of (shape_of n) ≡ 4
  unfolding shape_of plain_shape gpp_shape form_of
  digits_behind low high = eqb→eq _ 4 (passes_in_lem (λ s. eqb (form_of s) 4) (named item_numbers) 257 266 tt n (past_not_in (Unit {0}) n item_numbers p) low high)

  -- Any other has no form of its own.
  pub form_other : (n < 257) ⊎ (266 ≤ n) → form_of (shape_of n) ≡ 0
  unfolding shape_of plain_shape gpp_shape form_of
  form_other o =
      let out : is_in n (named item_numbers) ≡ false = past_not_in (Unit {0}) n item_numbers p in
      eqb→eq _ 0
      (⊎_elim (passes_in_lem (λ s. eqb (form_of s) 0) (named item_numbers) 0 257 tt n out (omega arith)) (passes_from (λ s. eqb (form_of s) 0) (named item_numbers) 266 tt tt n out) o)

-- the numbers of digits that have an arm
pub digits_arm : (n : ℕ) → OneOf (31 ∷ 257 ∷ 274 ∷ []) n → form_of (shape_of n) ≡ 4
unfolding shape_of plain_shape gpp_shape form_of
digits_arm n = ⊎_elim (λ e. rw e) (⊎_elim (λ e. rw e) (λ e. rw e))

-- A number of digits takes 1 to 15 of them, or 5 or 6.
pub in_digits : (n : ℕ) → form_of (shape_of n) ≡ 4 → shape_of n ≡ digits (cond (eqb n 31 || eqb n 257) 1 5) (cond (eqb n 31 || eqb n 257) 15 6)
unfolding shape_of plain_shape gpp_shape form_of code_of shape_by
in_digits n f = go (eqb n 31) (eqb n 257) refl refl
  where
    go : (a b : Bool) → eqb n 31 ≡ a → eqb n 257 ≡ b → shape_of n ≡ digits (cond (a || b) 1 5) (cond (a || b) 15 6)
    go true b p q = rw (eqb-true n 31 p)
    go false true p q = rw (eqb-true n 257 q)
    go false false p q =
        let t = passes_from (λ s. not (eqb (form_of s) 4) || eqb (code_of s) 41) (31 ∷ 257 ∷ []) 0 tt tt n (rw (p, q)) (omega arith) in
        let c : code_of (shape_of n) ≡ 41 = eqb→eq _ 41 (rw (eq-eqb (form_of (shape_of n)) 4 f) at t) in
        sym (shape_back n) ∙ ap shape_by c
