-- The allowed values of the book's table "The numbers", and the lines of rules 5 to 7, spelt out: for every limited
-- number and kind the values that are allowed, and what the end of an area breaks by the numbers that are present. Assumes nothing.
use mathlib.Core.Path.{◌≡◌, refl}
use mathlib.Core.Bool.{Bool, true, false, not, ◌&&◌}
use mathlib.Core.List.{List, [], ◌∷◌, ◌++◌, map}
use Prim.Native.Nat.{ℕ, ◌+◌, ◌^◌}
use lib.Dec.{leb}
use lib.ListN.{replicate}
use Rattle.meaning.specs.Octets.{is_in, all, same, octets_of}
use Rattle.meaning.specs.Jobs.{Context, comes}
use Rattle.meaning.specs.Framing.{gpp, Attribute}
use Rattle.meaning.specs.Shapes.{allowed}
use Rattle.meaning.specs.Breaches.{entry, met, misses, offends, asks_pdp_type}
use Rattle.meaning.specs.Listing.{chosen, at_end}
use Rattle.meaning.proofs.Computing.{computing}
use Rattle.meaning.proofs.Enumerated.{those, span, kinds, flag_numbers}

-- the value is allowed for the number, in a kind
abbrev may : (kind number : ℕ) → List ℕ → Bool
may kind n v = allowed (comes kind 0) n v

-- a number of four octets is allowed
abbrev fit : (kind number value : ℕ) → Bool
fit kind n x = may kind n (octets_of 4 x)

-- ---- Allowed values

-- the values of 6, 7, 45, 49 and 3GPP 3, whatever the kind, among 0 to 260
pub numbers_allowed : (kind : ℕ) →
    map (λ n. those (fit kind n) 261) (6 ∷ 7 ∷ 45 ∷ 49 ∷ gpp 3 ∷ []) ≡ (2 ∷ []) ∷ (7 ∷ []) ∷ (1 ∷ 2 ∷ []) ∷ span 1 18 ∷ (0 ∷ []) ∷ []
unfolding computing
numbers_allowed kind = refl

-- the values of 40, by the kind
pub status_allowed : map (λ kind. those (fit kind 40) 261) (span 2 6) ≡ map (λ x. x ∷ []) (1 ∷ 2 ∷ 7 ∷ 8 ∷ 3 ∷ [])
unfolding computing
status_allowed = refl

pub status_free : (v : List ℕ) → may 1 40 v ≡ true
unfolding computing
status_free v = refl

-- the bits above the lowest octet, 8 to 31, that may be set beside one of some values
abbrev upper : (kind number : ℕ) → List ℕ → List ℕ
upper kind n l = those (λ b. leb 8 b && not (all (λ x. not (fit kind n (2 ^ b + x))) l)) 32

-- all four octets count: no such bit may be set beside an allowed value
pub upper_zero : (kind : ℕ) →
    upper kind 6 (2 ∷ []) ++ upper kind 7 (7 ∷ []) ++ upper kind 45 (1 ∷ 2 ∷ []) ++ upper kind 49 (span 1 18) ++ upper kind (gpp 3) (0 ∷ [])
    ≡ []
unfolding computing
upper_zero kind = refl

pub upper_zero_status :
    upper 2 40 (1 ∷ []) ++ upper 3 40 (2 ∷ []) ++ upper 4 40 (7 ∷ []) ++ upper 5 40 (8 ∷ []) ++ upper 6 40 (3 ∷ []) ≡ []
unfolding computing
upper_zero_status = refl

-- the values of 3GPP 11 and 12, of all octets and of all digits
pub octets_allowed : (kind : ℕ) →
    (those (λ x. may kind (gpp 11) (x ∷ [])) 256 ≡ 255 ∷ []) × (those (λ x. may kind (gpp 12) ((0x30 + x) ∷ [])) 10 ≡ 0 ∷ 1 ∷ 2 ∷ [])
unfolding computing
octets_allowed kind = (refl, refl)

-- the numbers that no line limits
abbrev unlimited : List ℕ
unlimited = those (λ n. not (is_in n (6 ∷ 7 ∷ 40 ∷ 45 ∷ 49 ∷ gpp 3 ∷ gpp 11 ∷ gpp 12 ∷ []))) 512

pub others_allowed : (kind : ℕ) (v : List ℕ) → map (λ n. may kind n v) unlimited ≡ replicate 504 true
unfolding computing
others_allowed kind v = refl

-- ---- Rule 2: "shape met"

-- no attribute breaks rules 1 and 2 at once
pub not_both_1_and_2 : (c : Context) (a : Attribute) → (misses a && offends c a) ≡ false
unfolding misses offends
not_both_1_and_2 c a = apart (met a) _
  where
    apart : (m x : Bool) → (not m && (m && x)) ≡ false
    apart true x = refl
    apart false x = refl

-- ---- What the end breaks, by the numbers that are present

-- the entries at an end of length 9
abbrev ends : (kind flags : ℕ) (present : List ℕ) → List ℕ
ends kind flags l = chosen (at_end (comes kind flags) 9 l)

-- the same, with all that rule 6 asks for
abbrev late : (kind flags : ℕ) (present : List ℕ) → List ℕ
late kind flags l = ends kind flags (1 ∷ 8 ∷ 30 ∷ 40 ∷ 44 ∷ l)

-- the numbers that change it by being there
abbrev matter : (kind flags : ℕ) (present : List ℕ) → List ℕ
matter kind flags l = those (λ n. not (same (late kind flags (n ∷ l)) (late kind flags l))) 512

-- what rule 6 asks for in kinds 2, 3, 6 and in kinds 4, 5, and the PDP type
abbrev session : List ℕ
session = map (λ n. entry 9 6 n) (8 ∷ 30 ∷ 40 ∷ 44 ∷ [])

abbrev status : List ℕ
status = entry 9 6 40 ∷ []

abbrev asked : List ℕ
asked = entry 9 7 (gpp 3) ∷ []

-- rule 6, all else being there
pub lacked : map (λ kind. ends kind 0 (4 ∷ [])) kinds ≡
    (entry 9 6 1 ∷ entry 9 6 30 ∷ []) ∷ session ∷ session ∷ status ∷ status ∷ session ∷ []
unfolding computing
lacked = refl

-- rule 7, "neither 4 nor 32", in every kind
pub nameless : map (λ kind. late kind 0 []) kinds ≡ replicate 6 (entry 9 7 4 ∷ [])
unfolding computing
nameless = refl

pub named : map (λ kind. late kind 0 (4 ∷ []) ++ late kind 0 (32 ∷ [])) kinds ≡ replicate 6 []
unfolding computing
named = refl

-- rule 7, what the flags make necessary
pub flagged :
    map (λ kind. map (λ flags. late kind flags (4 ∷ [])) flag_numbers) kinds
    ≡ ([] ∷ (entry 9 7 2 ∷ []) ∷ (entry 9 7 3 ∷ entry 9 7 60 ∷ []) ∷ [] ∷ (entry 9 7 2 ∷ []) ∷ (entry 9 7 3 ∷ entry 9 7 60 ∷ []) ∷ [])
    ∷ ([] ∷ [] ∷ [] ∷ replicate 3 (entry 9 7 25 ∷ [])) ∷ replicate 4 (replicate 6 [])
unfolding computing
flagged = refl

-- rule 7, "when plain attribute 7": the PDP type is wanted
pub pdp_type_asked : those (λ kind. asks_pdp_type (comes kind 0)) 256 ≡ 1 ∷ 2 ∷ 3 ∷ 6 ∷ []
unfolding computing
pdp_type_asked = refl

pub pdp_type :
    (map (λ kind. late kind 0 (4 ∷ 7 ∷ [])) kinds ≡ asked ∷ asked ∷ asked ∷ [] ∷ [] ∷ asked ∷ [])
    × (map (λ kind. late kind 0 (4 ∷ 7 ∷ gpp 3 ∷ [])) kinds ≡ replicate 6 [])
unfolding computing
pdp_type = (refl, refl)

-- rule 5, "both present", in kind 1
pub both_passwords : map (λ kind. late kind 0 (2 ∷ 3 ∷ 4 ∷ [])) kinds ≡ (entry 9 5 3 ∷ []) ∷ replicate 5 []
unfolding computing
both_passwords = refl

-- in kind 1 nothing else matters: beside 2, beside 3, with neither name, and with both flags that ask for something
pub all_that_matters :
    (matter 1 0 (2 ∷ 4 ∷ []) ≡ 3 ∷ 7 ∷ []) × (matter 1 0 (3 ∷ 4 ∷ []) ≡ 2 ∷ 7 ∷ []) × (matter 1 0 [] ≡ 4 ∷ 7 ∷ 32 ∷ [])
    × (matter 1 2 (7 ∷ 4 ∷ []) ≡ 3 ∷ 60 ∷ gpp 3 ∷ [])
unfolding computing
all_that_matters = (refl, refl, refl, refl)
