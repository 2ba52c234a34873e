-- The book, "Framing", spelt out: what stands at the front of some octets, for every type, every length, every m and every octet of
-- the vendor id; the kinds and flags that are allowed, and the two orders of the refusal book. Assumes nothing.
use mathlib.Core.Path.{◌≡◌, refl}
use mathlib.Core.Bool.{not}
use mathlib.Core.List.{List, [], ◌∷◌, ◌++◌, map}
use Prim.Native.Nat.{ℕ, ◌-◌}
use lib.ListN.{replicate, set}
use Rattle.meaning.specs.Octets.{same}
use Rattle.meaning.specs.Jobs.{is_kind, are_flags, comes}
use Rattle.meaning.specs.Framing.{gpp, head_length, Attribute, Found, attribute, refused, nothing, found, walk, attributes}
use Rattle.meaning.specs.Answers.{Answer, refused, Written, read_answer, check_answer, write_answer}
use Rattle.meaning.specs.Refusals.{refusal, area_refusal}
use Rattle.meaning.proofs.Computing.{computing}
use Rattle.meaning.proofs.Edges.{front}
use Rattle.meaning.proofs.Enumerated.{those, span, kinds, flag_numbers}

-- ---- Kinds and flags

-- the kinds, and the "allowed flag numbers"
pub accepted : (those is_kind 300 ≡ kinds) × (those are_flags 300 ≡ flag_numbers)
unfolding computing
accepted = (refl, refl)

-- ---- One attribute

-- the number, head and size of an attribute, or the refusal alone
abbrev says : Found → List ℕ
says (attribute n head size) = n ∷ head ∷ size ∷ []
says (refused k) = k ∷ []
says nothing = []

-- what stands there of this type, with this length octet and these octets after it
abbrev stands : (type size : ℕ) → List ℕ → List ℕ
stands t n r = says (found (t ∷ n ∷ r))

-- 5 and 6: every length octet before 100 octets, and before 253
pub lengths :
    (map (λ n. stands 1 n (replicate 100 0)) (span 0 255)
    ≡ replicate 2 (5 ∷ []) ++ map (λ n. 1 ∷ 2 ∷ n ∷ []) (span 2 102) ++ replicate 153 (6 ∷ []))
    × (map (λ n. stands 1 n (replicate 253 0)) (span 2 255) ≡ map (λ n. 1 ∷ 2 ∷ n ∷ []) (span 2 255))
unfolding computing
lengths = (refl, refl)

-- the octets after a length octet: vendor 10415, number 5, m, and enough more
abbrev ours : (m : ℕ) → List ℕ
ours m = 0 ∷ 0 ∷ 40 ∷ 175 ∷ 5 ∷ m ∷ replicate 247 0

-- type 26 alone is looked into
pub types :
    map (λ t. stands t 9 (ours 3)) (span 0 255)
    ≡ map (λ t. t ∷ 2 ∷ 9 ∷ []) (span 0 25) ++ (gpp 5 ∷ 8 ∷ 9 ∷ []) ∷ map (λ t. t ∷ 2 ∷ 9 ∷ []) (span 27 255)
unfolding computing
types = refl

-- 7, then 8: every n with its m, and every m
pub vendor_lengths :
    (map (λ n. stands 26 n (ours (n - 6))) (span 2 255)
    ≡ replicate 5 (7 ∷ []) ++ (8 ∷ []) ∷ map (λ n. gpp 5 ∷ 8 ∷ n ∷ []) (span 8 254) ++ (8 ∷ []) ∷ [])
    × (map (λ m. stands 26 20 (ours m)) (span 0 255) ≡ replicate 14 (8 ∷ []) ++ (gpp 5 ∷ 8 ∷ 20 ∷ []) ∷ replicate 241 (8 ∷ []))
unfolding computing
vendor_lengths = (refl, refl)

-- another vendor's string, and every octet of the vendor id
pub vendors :
    (map (λ n. stands 26 n (replicate 253 0)) (span 2 255) ≡ replicate 5 (7 ∷ []) ++ map (λ n. 26 ∷ 2 ∷ n ∷ []) (span 7 255))
    × (map (λ p. those (λ x. not (same (stands 26 9 (set (ours 3) p x)) (26 ∷ 2 ∷ 9 ∷ []))) 256) (span 0 3)
    ≡ map (λ x. x ∷ []) (0 ∷ 0 ∷ 40 ∷ 175 ∷ []))
unfolding computing
vendors = (refl, refl)

-- every number that an attribute can carry
pub carried : map (λ s. stands 26 9 (set (ours 3) 4 s)) (span 0 255) ≡ map (λ s. gpp s ∷ 8 ∷ 9 ∷ []) (span 0 255)
unfolding computing
carried = refl

-- ---- The walk: place, number and value of each attribute, in area order

-- an attribute
abbrev at : (place number : ℕ) → List ℕ → Attribute
at p n v = record { place = p; number = n; value = v }

pub walked_over :
    attributes (walk (4 ∷ 4 ∷ 1 ∷ 2 ∷ 26 ∷ 9 ∷ 0 ∷ 0 ∷ 40 ∷ 175 ∷ 5 ∷ 3 ∷ 7 ∷ 0 ∷ 2 ∷ 26 ∷ 8 ∷ 0 ∷ 0 ∷ 0 ∷ 9 ∷ 3 ∷ 4 ∷ 5 ∷ 3 ∷ 6 ∷ []))
    ≡ at 0 4 (1 ∷ 2 ∷ []) ∷ at 4 (gpp 5) (7 ∷ []) ∷ at 13 0 [] ∷ at 15 26 (0 ∷ 0 ∷ 0 ∷ 9 ∷ 3 ∷ 4 ∷ []) ∷ at 23 5 (6 ∷ []) ∷ []
unfolding computing
walked_over = refl

-- 3 is for "over 4,076 octets": the longest area goes on to 6, at its sixteenth attribute
pub longest : (area_refusal 1 0 (replicate 4076 255) ≡ refusal 6 3825) × (area_refusal 1 0 (replicate 4077 255) ≡ refusal 3 4077)
unfolding computing
longest = (refl, refl)

-- the octets before a value
pub heads : map head_length (span 0 511) ≡ replicate 256 2 ++ replicate 256 8
unfolding head_length
heads = refl

-- ---- The book's two orders: each refusal where later ones would apply too, with no room at all

-- what each job answers
abbrev reads : (kind flags : ℕ) → List ℕ → Answer (List ℕ)
reads kind flags area = read_answer kind flags area 0

abbrev checks : (kind flags : ℕ) → List ℕ → Answer (List ℕ)
checks kind flags area = check_answer (comes kind flags) area 0

abbrev writes : List ℕ → Answer Written
writes sheet = write_answer sheet 0

-- "order for read and check": refusals, but for 8, where later ones would apply too
pub area_order_lem :
    (reads 0 3 (replicate 4077 0) ≡ refused 1 0) × (reads 1 3 (replicate 4077 0) ≡ refused 2 0)
    × (reads 1 0 (replicate 4077 0) ≡ refused 3 4077) × (reads 1 0 (0 ∷ 2 ∷ 26 ∷ 1 ∷ 4 ∷ []) ≡ refused 5 2)
    × (reads 1 0 (26 ∷ 6 ∷ 0 ∷ 0 ∷ []) ≡ refused 6 0) × (reads 1 0 (26 ∷ 6 ∷ 0 ∷ 0 ∷ 40 ∷ 175 ∷ 4 ∷ []) ≡ refused 7 0)
    × (reads 1 0 [] ≡ refused 9 9) × (checks 1 0 (4 ∷ []) ≡ refused 4 0) × (checks 1 0 [] ≡ refused 10 3)
unfolding computing
area_order_lem = (refl, refl, refl, refl, refl, refl, refl, refl, refl)

-- the order for writing: refusals, but for 24, where later ones would apply too
pub sheet_order :
    (writes (0 ∷ front ++ 7 ∷ 3 ∷ 0 ∷ 1 ∷ []) ≡ refused 20 0) × (writes (front ++ 7 ∷ 0 ∷ 0 ∷ 1 ∷ []) ≡ refused 21 0)
    × (writes (front ++ 1 ∷ 0 ∷ 0 ∷ 2 ∷ 0 ∷ 0 ∷ 0 ∷ 0 ∷ 0 ∷ 0 ∷ 9 ∷ 1 ∷ []) ≡ refused 22 13)
    × (writes (front ++ 1 ∷ 0 ∷ 0 ∷ 2 ∷ 0 ∷ 0 ∷ 0 ∷ 0 ∷ 0 ∷ 0 ∷ 9 ∷ 0 ∷ 0 ∷ []) ≡ refused 23 13)
    × (writes (front ++ 1 ∷ 0 ∷ 0 ∷ 1 ∷ 0 ∷ 0 ∷ 0 ∷ 0 ∷ 0 ∷ []) ≡ refused 22 13)
    × (writes (front ++ 1 ∷ 0 ∷ 0 ∷ 1 ∷ 0 ∷ 0 ∷ 0 ∷ 0 ∷ []) ≡ refused 25 2)
unfolding computing
sheet_order = (refl, refl, refl, refl, refl, refl)
