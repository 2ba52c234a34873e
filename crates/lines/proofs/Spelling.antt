-- A number in decimal: the length, the equations that one expects, and that the library spells it alike. Assumes nothing.
use mathlib.Core.Path.{◌≡◌, refl, sym, ap, ◌∙◌}
use mathlib.Core.Bool.{Bool, true, false, cond}
use mathlib.Core.List.{List, [], ◌∷◌, ◌++◌}
use Prim.Native.Nat.{ℕ, zero, suc, ◌+◌, ◌/◌, ◌%◌, ◌^◌, ◌<◌, ◌≤◌}
use native.Mathlib.Nat.{pow-suc}
use native.Mathlib.Omega.{arith}
use borrow.Author.Tests.{le-leb, lt-leb, leb-true, leb-false}
use lib.Dec.{leb}
use lib.ListN.{length, length-append}
use Rattle.std.specs.Fmt as Library
use Rattle.std.proofs.lemmas.Fmt.{decimal_by_steps}
use Rattle.lines.specs.Lines.{decimal_in, decimal}

-- up to 9 a number is its digit
pub decimal_one : (k n : ℕ) → n ≤ 9 → decimal_in (suc k) n ≡ (n + 48) ∷ []
unfolding decimal_in
decimal_one k n h = rw (le-leb n 9 h)

-- above, its tenth with the last digit behind it
pub decimal_more : (k n : ℕ) → 9 < n → decimal_in (suc k) n ≡ decimal_in k (n / 10) ++ ((n % 10 + 48) ∷ [])
unfolding decimal_in
decimal_more k n h = rw (lt-leb n 9 h)

-- a digit more of room changes nothing where the number had room
pub decimal_enough : (k n : ℕ) → n < 10 ^ suc k → decimal_in (suc (suc k)) n ≡ decimal_in (suc k) n
decimal_enough zero n h = let s : n < 10 ^ 1 = h in decimal_one 1 n (omega arith) ∙ sym (decimal_one 0 n (omega arith))
decimal_enough (suc k) n h = step (leb n 9) refl (decimal_enough k (n / 10) (omega (arith, pow-suc 10 (suc k))))
  where
    step : (b : Bool) → leb n 9 ≡ b → decimal_in (suc (suc k)) (n / 10) ≡ decimal_in (suc k) (n / 10)
        → decimal_in (suc (suc (suc k))) n ≡ decimal_in (suc (suc k)) n
    step true e i = let h : n ≤ 9 = leb-true n 9 e in decimal_one (suc (suc k)) n h ∙ sym (decimal_one (suc k) n h)
    step false e i =
        let h : 9 < n = leb-false n 9 e in
        decimal_more (suc (suc k)) n h ∙ ap (λ (t : List ℕ). t ++ ((n % 10 + 48) ∷ [])) i ∙ sym (decimal_more (suc k) n h)

-- ---- The equations that one expects, of every number of 64 bits

pub decimal_up_to_9 : (n : ℕ) → n ≤ 9 → decimal n ≡ (n + 48) ∷ []
unfolding decimal
decimal_up_to_9 n h = decimal_one 19 n h

pub decimal_above_9 : (n : ℕ) → 9 < n → n < 2 ^ 64 → decimal n ≡ decimal (n / 10) ++ ((n % 10 + 48) ∷ [])
unfolding decimal
decimal_above_9 n h small =
    decimal_more 19 n h ∙ ap (λ (t : List ℕ). t ++ ((n % 10 + 48) ∷ [])) (sym (decimal_enough 18 (n / 10) (omega arith)))

-- ---- The length

-- no more digits than there is room for
pub decimal_in_length : (k n : ℕ) → length (decimal_in k n) ≤ k
unfolding decimal_in
decimal_in_length zero n = omega arith
decimal_in_length (suc k) n = go (leb n 9) (decimal_in_length k (n / 10))
  where
    go : (b : Bool) → length (decimal_in k (n / 10)) ≤ k
        → length (cond b ((n + 48) ∷ []) (decimal_in k (n / 10) ++ ((n % 10 + 48) ∷ []))) ≤ suc k
    go true h = omega arith
    go false h = omega (arith, length-append (decimal_in k (n / 10)) ((n % 10 + 48) ∷ []))

pub decimal_length : (n : ℕ) → length (decimal n) ≤ 20
unfolding decimal
decimal_length n = decimal_in_length 20 n

-- ---- The library's spelling

-- the library spells every number of 64 bits alike
pub library_decimal : (n : ℕ) → n < 2 ^ 64 → Library.decimal n ≡ decimal n
library_decimal n small = decimal_by_steps (λ m ds. m < 2 ^ 64 → ds ≡ decimal m) one more n small small
  where
    one : (m : ℕ) → m < 10 → m < 2 ^ 64 → (48 + m) ∷ [] ≡ decimal m
    one m l h = ap (λ (x : ℕ). x ∷ []) (omega arith) ∙ sym (decimal_up_to_9 m (omega arith))

    more : (m : ℕ) (ds : List ℕ) → 10 ≤ m → (m / 10 < 2 ^ 64 → ds ≡ decimal (m / 10)) → m < 2 ^ 64 → ds ++ ((48 + m % 10) ∷ []) ≡ decimal m
    more m ds l i h =
        ap (λ (t : List ℕ). t ++ ((48 + m % 10) ∷ [])) (i (omega arith))
        ∙ ap (λ (x : ℕ). decimal (m / 10) ++ (x ∷ [])) (omega arith)
        ∙ sym (decimal_above_9 m (omega arith) h)
