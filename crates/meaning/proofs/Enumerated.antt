-- The lines that name numbers, spelt out over all 512 carried numbers (3GPP s stands as 256 + s): which have a form, which
-- have a shape, and which rules 3, 4, 6 and 7 speak of, by kind and flags. Assumes nothing.
use mathlib.Core.Path.{◌≡◌, refl}
use mathlib.Core.Bool.{Bool, not}
use mathlib.Core.List.{List, [], ◌∷◌, ◌++◌, map}
use Prim.Native.Nat.{ℕ, zero, suc, ◌-◌}
use lib.Dec.{eqb}
use Rattle.meaning.specs.Versions.{current}
use Rattle.meaning.specs.Jobs.{comes}
use Rattle.meaning.specs.Shapes.{shape_of, meets}
use Rattle.meaning.specs.Sheet.{form_of}
use Rattle.meaning.specs.Presence.{mandatory, conditional}
use Rattle.meaning.specs.Breaches.{once_only, barred}
use Rattle.meaning.specs.Listing.{put}
use Rattle.meaning.proofs.Computing.{computing}

-- the numbers below k at which a test passes, before a list
abbrev pub those_before : (ℕ → Bool) → (k : ℕ) → List ℕ → List ℕ
those_before p zero l = l
those_before p (suc k) l = those_before p k (put (p k) k l)

-- the numbers below k at which a test passes
abbrev pub those : (ℕ → Bool) → (k : ℕ) → List ℕ
those p k = those_before p k []

-- rules 4, 6 and 7 of a kind, flags and a number
abbrev bars : (kind flags number : ℕ) → Bool
bars kind flags n = barred (comes kind flags) n

abbrev demands : (kind number : ℕ) → Bool
demands kind n = mandatory (comes kind 0) n

abbrev wants : (kind flags number : ℕ) → Bool
wants kind flags n = conditional (comes kind flags) n

-- so many numbers from a on
abbrev counted : (a k : ℕ) → List ℕ
counted a zero = []
counted a (suc k) = a ∷ counted (suc a) k

-- the numbers from a to b
abbrev pub span : ℕ → ℕ → List ℕ
span a b = counted a (suc b - a)

-- kinds 1 to 6
abbrev pub kinds : List ℕ
kinds = span 1 6

-- the flags that are allowed
abbrev pub flag_numbers : List ℕ
flag_numbers = 0 ∷ 1 ∷ 2 ∷ 4 ∷ 5 ∷ 6 ∷ []

-- 3GPP 1 to 12, 18
abbrev pub listed3gpp : List ℕ
listed3gpp = span 257 268 ++ 274 ∷ []

-- the plain numbers that have a shape, and the 3GPP ones
abbrev pub have_shape : List ℕ
have_shape = span 1 4 ++ span 6 9 ++ 18 ∷ 24 ∷ 25 ∷ span 30 32 ++ span 40 49 ++ 60 ∷ 61 ∷ listed3gpp

-- the numbers of forms 1 to 7: no shape has form 1
pub formed :
    map (λ f. those (λ n. eqb (form_of (shape_of n)) f) 512) (span 1 7)
    ≡ [] ∷ (6 ∷ 7 ∷ span 40 43 ++ span 45 49 ++ 61 ∷ 258 ∷ 259 ∷ []) ∷ (4 ∷ 8 ∷ 9 ∷ 260 ∷ 262 ∷ 263 ∷ [])
    ∷ (31 ∷ 257 ∷ 264 ∷ 265 ∷ 274 ∷ []) ∷ (44 ∷ []) ∷ (261 ∷ []) ∷ (266 ∷ 267 ∷ 268 ∷ []) ∷ []
unfolding computing
formed = refl

-- the numbers that have a shape: an empty value misses each of them
pub have_shape_lem : those (λ n. not (meets current (shape_of n) [])) 512 ≡ have_shape
unfolding computing
have_shape_lem = refl

-- rule 3
pub once_only_lem : those once_only 512 ≡ span 1 4 ++ span 6 9 ++ span 30 32 ++ span 40 49 ++ 60 ∷ 61 ∷ listed3gpp
unfolding computing
once_only_lem = refl

-- rule 4, kinds 1 to 6 without flag 4, then with it
pub barred_without :
    map (λ kind. those (bars kind 0) 512) kinds
    ≡ (267 ∷ []) ∷ (2 ∷ 3 ∷ 18 ∷ 24 ∷ 25 ∷ 267 ∷ []) ∷ (2 ∷ 3 ∷ 18 ∷ 24 ∷ 25 ∷ [])
    ∷ (2 ∷ 3 ∷ 18 ∷ 24 ∷ listed3gpp) ∷ (2 ∷ 3 ∷ 18 ∷ 24 ∷ listed3gpp) ∷ (2 ∷ 3 ∷ 18 ∷ 24 ∷ 25 ∷ 267 ∷ []) ∷ []
unfolding computing
barred_without = refl

pub barred_with :
    map (λ kind. those (bars kind 4) 512) kinds
    ≡ (267 ∷ []) ∷ (2 ∷ 3 ∷ 18 ∷ 24 ∷ 267 ∷ []) ∷ (2 ∷ 3 ∷ 18 ∷ 24 ∷ [])
    ∷ (2 ∷ 3 ∷ 18 ∷ 24 ∷ listed3gpp) ∷ (2 ∷ 3 ∷ 18 ∷ 24 ∷ listed3gpp) ∷ (2 ∷ 3 ∷ 18 ∷ 24 ∷ 267 ∷ []) ∷ []
unfolding computing
barred_with = refl

-- rule 6, kinds 1 to 6
pub must_be_there :
    map (λ kind. those (demands kind) 512) kinds
    ≡ (1 ∷ 30 ∷ []) ∷ (8 ∷ 30 ∷ 40 ∷ 44 ∷ []) ∷ (8 ∷ 30 ∷ 40 ∷ 44 ∷ [])
    ∷ (40 ∷ []) ∷ (40 ∷ []) ∷ (8 ∷ 30 ∷ 40 ∷ 44 ∷ []) ∷ []
unfolding computing
must_be_there = refl

-- rule 7 by flags: kind 1, then kind 2, then the others
pub wanted_in_1 :
    map (λ flags. those (wants 1 flags) 512) flag_numbers ≡ [] ∷ (2 ∷ []) ∷ (3 ∷ 60 ∷ []) ∷ [] ∷ (2 ∷ []) ∷ (3 ∷ 60 ∷ []) ∷ []
unfolding computing
wanted_in_1 = refl

pub wanted_in_2 :
    map (λ flags. those (wants 2 flags) 512) flag_numbers ≡ [] ∷ [] ∷ [] ∷ (25 ∷ []) ∷ (25 ∷ []) ∷ (25 ∷ []) ∷ []
unfolding computing
wanted_in_2 = refl

pub wanted_else :
    map (λ kind. those (wants kind 5) 512 ++ those (wants kind 6) 512) (span 3 6) ≡ [] ∷ [] ∷ [] ∷ [] ∷ []
unfolding computing
wanted_else = refl
