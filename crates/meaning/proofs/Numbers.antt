-- The layout of numbers, once over the width: high octet first, there and back. Assumes nothing.
use mathlib.Core.Path.{◌≡◌, refl, sym, ap, ◌∙◌}
use mathlib.Core.List.{List, [], ◌∷◌, ◌++◌}
use Prim.Native.Nat.{ℕ, zero, suc, ◌+◌, ◌*◌, ◌/◌, ◌%◌, ◌^◌, ◌<◌}
use native.Mathlib.Omega.{arith}
use native.Mathlib.Nat.{pow-suc, pow-succ', mul_assoc, mod-one, mod-eq_of_lt}
use native.Mathlib.Numerals.{add-one}
use lib.ListN.{length, length-append}
use lib.Arith.{mod-mul, digits_div, digits_mod, digits_lt}
use Rattle.meaning.specs.Octets.{Octets, number_of, octets_of}

pow_positive : (w : ℕ) → 0 < 256 ^ w
pow_positive zero = omega arith
pow_positive (suc w) = let h : 0 < 256 ^ w = pow_positive w in rw pow-suc (omega arith)

-- a number of that width has as many octets
pub octets_length : (w n : ℕ) → length (octets_of w n) ≡ w
unfolding octets_of
octets_length zero n = refl
octets_length (suc w) n = ap suc (octets_length w n)

-- and each is an octet
pub octets_octets : (w n : ℕ) → Octets (octets_of w n)
unfolding octets_of
octets_octets zero n = tt
octets_octets (suc w) n = (omega arith, octets_octets w n)

-- The octets of a number stand for it, up to the width.
pub number_of_octets : (w n : ℕ) → number_of (octets_of w n) ≡ n % 256 ^ w
unfolding number_of octets_of
number_of_octets zero n = sym (mod-one n)
number_of_octets (suc w) n =
    rw (octets_length w n, number_of_octets w n, pow-succ' 256 w) (sym (mod-mul n (omega arith) (pow_positive w)))

-- where it fits the width, for it alone
pub number_back : (w n : ℕ) → n < 256 ^ w → number_of (octets_of w n) ≡ n
number_back w n h = number_of_octets w n ∙ mod-eq_of_lt h

-- Octets stand for a number of their width.
pub number_fits : (l : List ℕ) → Octets l → number_of l < 256 ^ length l
unfolding number_of
number_fits [] o = omega arith
number_fits (x ∷ l) o = rw (pow-succ' 256 (length l)) (digits_lt o.0 (number_fits l o.1))

-- one octet more at the end
pub number_snoc : (l : List ℕ) (x : ℕ) → number_of (l ++ (x ∷ [])) ≡ number_of l * 256 + x
unfolding number_of
number_snoc [] x = omega arith
number_snoc (y ∷ l) x =
    let n : length (l ++ (x ∷ [])) ≡ suc (length l) = length-append l (x ∷ []) ∙ add-one (length l) in
    let p : 256 ^ length (l ++ (x ∷ [])) ≡ 256 ^ length l * 256 = ap (λ (k : ℕ). 256 ^ k) n ∙ pow-suc 256 (length l) in
    let q : y * 256 ^ length (l ++ (x ∷ [])) ≡ y * 256 ^ length l * 256 =
    ap (λ (k : ℕ). y * k) p ∙ sym (mul_assoc y (256 ^ length l) 256) in
    omega (arith, number_snoc l x)

-- Octets of one length that stand for one number are the same.
pub number_one : (k l : List ℕ) → Octets k → Octets l → length k ≡ length l → number_of k ≡ number_of l → k ≡ l
unfolding number_of
number_one [] [] ok ol e v = refl
number_one [] (y ∷ l) ok ol e v = absurd (omega arith)
number_one (x ∷ k) [] ok ol e v = absurd (omega arith)
number_one (x ∷ k) (y ∷ l) ok ol e v =
    let n : length k ≡ length l = omega arith in
    let v' : x * 256 ^ length l + number_of k ≡ y * 256 ^ length l + number_of l = rw n at v in
    let below : number_of k < 256 ^ length l = rw n at (number_fits k ok.1) in
    let high : x ≡ y = sym (digits_div x below) ∙ ap (λ (z : ℕ). z / 256 ^ length l) v' ∙ digits_div y (number_fits l ol.1) in
    let low : number_of k ≡ number_of l =
    sym (digits_mod x below) ∙ ap (λ (z : ℕ). z % 256 ^ length l) v' ∙ digits_mod y (number_fits l ol.1) in
    let rest : k ≡ l = number_one k l ok.1 ol.1 n low in
    cc

-- The octets of the number of some octets are these octets.
pub octets_back : (l : List ℕ) → Octets l → octets_of (length l) (number_of l) ≡ l
octets_back l o =
    number_one (octets_of (length l) (number_of l)) l (octets_octets (length l) (number_of l)) o (octets_length (length l) (number_of l))
    (number_back (length l) (number_of l) (number_fits l o))
