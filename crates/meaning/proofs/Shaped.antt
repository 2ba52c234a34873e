-- The shapes of the book's table "The numbers", spelt out: for every carried number the lengths from 0 to 253 at which a value
-- meets its shape, for a text the octets that may stand at a place, and what is stored. Assumes nothing.
use mathlib.Core.Path.{◌≡◌, refl}
use mathlib.Core.Bool.{Bool, true, not}
use mathlib.Core.List.{List, [], ◌∷◌, ◌++◌, map}
use Prim.Native.Nat.{ℕ, zero, suc, ◌*◌, ◌-◌}
use lib.ListN.{take, replicate, length, set}
use Rattle.meaning.specs.Octets.{is_in}
use Rattle.meaning.specs.Versions.{current}
use Rattle.meaning.specs.Framing.{gpp}
use Rattle.meaning.specs.Shapes.{shape_of, meets}
use Rattle.meaning.specs.Sheet.{item}
use Rattle.meaning.proofs.Computing.{computing}
use Rattle.meaning.proofs.Enumerated.{those, span, have_shape}

-- the value meets the shape of the number
abbrev met : (number : ℕ) → List ℕ → Bool
met n v = meets current (shape_of n) v

-- the item of a number and a value
abbrev itemised : (number : ℕ) → List ℕ → List ℕ
itemised n v = item current n v

-- ---- Lengths

-- each of some numbers is met by values of just these lengths, one value to a length
abbrev MetAt : (value : ℕ → List ℕ) (lengths numbers : List ℕ) → Type 0
MetAt value lengths l = map (λ n. those (λ k. met n (value k)) 254) l ≡ map (λ n. lengths) l

-- so many octets, whatever they are
abbrev any : (octet : ℕ → ℕ) (size : ℕ) → List ℕ
any o zero = []
any o (suc k) = o k ∷ any o k

-- so many octets of a text that goes on with digits
abbrev text : List ℕ → (size : ℕ) → List ℕ
text start k = take k start ++ replicate (k - length start) 0x31

-- numbers of one shape: what is said of the first below holds of them all
pub alike :
    (map shape_of (7 ∷ span 40 43 ++ span 45 49 ++ 61 ∷ gpp 2 ∷ gpp 3 ∷ []) ≡ replicate 13 (shape_of 6))
    × (map shape_of (8 ∷ 9 ∷ gpp 4 ∷ gpp 6 ∷ gpp 7 ∷ []) ≡ replicate 5 (shape_of 4))
    × (map shape_of (18 ∷ 24 ∷ 25 ∷ 30 ∷ 32 ∷ []) ≡ replicate 5 (shape_of 1))
    × (shape_of (gpp 1) ≡ shape_of 31) × (map shape_of (gpp 9 ∷ gpp 18 ∷ []) ≡ replicate 2 (shape_of (gpp 8)))
unfolding computing
alike = (refl, refl, refl, refl, refl)

module _ (o : ℕ → ℕ) where
  -- "four octets", forms 2 and 3; "at least 1 octet", "60 at least 5"
  pub octets_met : MetAt (any o) (4 ∷ []) (6 ∷ 4 ∷ []) × MetAt (any o) (span 1 253) (1 ∷ []) × MetAt (any o) (span 5 253) (60 ∷ [])
  unfolding computing
  octets_met = (refl, refl, refl)

  -- 2 in blocks of 16, "3 exactly 17", and 3GPP 11 "any one octet"
  pub exact_met :
      MetAt (any o) (map (λ k. 16 * k) (span 1 8)) (2 ∷ []) × MetAt (any o) (17 ∷ []) (3 ∷ []) × MetAt (any o) (1 ∷ []) (gpp 11 ∷ [])
  unfolding computing
  exact_met = (refl, refl, refl)

-- "31, 1 to 15 digits" and IMSI; "5 or 6 digits"; "one hexadecimal digit", "one decimal digit"; "16 hexadecimal digits"
pub digits_met : MetAt (text []) (span 1 15) (31 ∷ []) × MetAt (text []) (5 ∷ 6 ∷ []) (gpp 8 ∷ [])
unfolding computing
digits_met = (refl, refl)

pub hexadecimal_met : MetAt (text []) (1 ∷ []) (gpp 10 ∷ gpp 12 ∷ []) × MetAt (text []) (16 ∷ []) (44 ∷ [])
unfolding computing
hexadecimal_met = (refl, refl)

-- "98-", "99-"
abbrev release98 : List ℕ
release98 = 0x39 ∷ 0x38 ∷ 0x2D ∷ []

abbrev release99 : List ℕ
release99 = 0x39 ∷ 0x39 ∷ 0x2D ∷ []

-- "98-" and 6 hexadecimal digits, "99-" and 22
pub qos_met : MetAt (text release98) (9 ∷ []) (gpp 5 ∷ []) × MetAt (text release99) (25 ∷ []) (gpp 5 ∷ [])
unfolding computing
qos_met = (refl, refl)

-- the numbers that have no shape
abbrev pub shapeless : List ℕ
shapeless = those (λ n. not (is_in n have_shape)) 512

-- "Any other number has no shape": every value will do
pub shapeless_met : (v : List ℕ) → map (λ n. met n v) shapeless ≡ replicate 473 true
unfolding computing
shapeless_met v = refl

-- ---- The octets of a text

-- the octets that may stand at some places of a value of a number
abbrev fits : (number : ℕ) → List ℕ → (places : List ℕ) → List (List ℕ)
fits n v l = map (λ p. those (λ x. met n (set v p x)) 256) l

-- "Text is ASCII": 0 to 9
abbrev ten : List ℕ
ten = span 0x30 0x39

-- "hexadecimal letters are upper case only": 0 to 9, A to F
abbrev sixteen : List ℕ
sixteen = ten ++ span 0x41 0x46

-- the first, the second, the middle and the last digit, or each
pub digits_fit :
    (fits 31 (text [] 15) (0 ∷ 1 ∷ 7 ∷ 14 ∷ []) ≡ replicate 4 ten) × (fits 31 (text [] 1) (0 ∷ []) ≡ ten ∷ [])
    × (fits (gpp 8) (text [] 6) (span 0 5) ≡ replicate 6 ten) × (fits (gpp 12) (text [] 1) (0 ∷ []) ≡ ten ∷ [])
unfolding computing
digits_fit = (refl, refl, refl, refl)

pub hexadecimal_fits :
    (fits 44 (text [] 16) (0 ∷ 1 ∷ 8 ∷ 15 ∷ []) ≡ replicate 4 sixteen) × (fits (gpp 10) (text [] 1) (0 ∷ []) ≡ sixteen ∷ [])
unfolding computing
hexadecimal_fits = (refl, refl)

-- the octets of a release's two digits and a dash, each by itself, then hexadecimal digits
pub qos_fits :
    (fits (gpp 5) (text release98 9) (span 0 8) ≡ map (λ x. x ∷ []) release98 ++ replicate 6 sixteen)
    × (fits (gpp 5) (text release99 25) (0 ∷ 1 ∷ 2 ∷ 3 ∷ 4 ∷ 13 ∷ 24 ∷ []) ≡ map (λ x. x ∷ []) release99 ++ replicate 4 sixteen)
unfolding computing
qos_fits = (refl, refl)

-- ---- What is stored

-- a value that meets no shape stands as it is, "form 0 (plain) or 1 (3GPP)", under its type and sub-attribute number
pub as_it_stands_lem :
    map (λ n. itemised n (7 ∷ 7 ∷ [])) (span 0 511)
    ≡ map (λ t. t ∷ 0 ∷ 0 ∷ 2 ∷ 7 ∷ 7 ∷ []) (span 0 255) ++ map (λ s. 26 ∷ s ∷ 1 ∷ 2 ∷ 7 ∷ 7 ∷ []) (span 0 255)
unfolding computing
as_it_stands_lem = refl

-- form 7: "stored 0 to 15", "any one octet as it stands", "stored 0 to 9"
pub one_octet :
    (map (λ x. itemised (gpp 10) (x ∷ [])) sixteen ≡ map (λ x. 26 ∷ 10 ∷ 7 ∷ 1 ∷ x ∷ []) (span 0 15))
    × (map (λ x. itemised (gpp 11) (x ∷ [])) (span 0 255) ≡ map (λ x. 26 ∷ 11 ∷ 7 ∷ 1 ∷ x ∷ []) (span 0 255))
    × (map (λ x. itemised (gpp 12) (x ∷ [])) ten ≡ map (λ x. 26 ∷ 12 ∷ 7 ∷ 1 ∷ x ∷ []) (span 0 9))
unfolding computing
one_octet = (refl, refl, refl)

-- form 4: "two to an octet", and the low half behind an odd digit; form 5 and form 6, each digit in its place
pub packed :
    (map (λ k. itemised 31 (take k (span 0x31 0x39))) (1 ∷ 2 ∷ 8 ∷ 9 ∷ [])
    ≡ (31 ∷ 0 ∷ 4 ∷ 1 ∷ 0x1F ∷ []) ∷ (31 ∷ 0 ∷ 4 ∷ 2 ∷ 0x12 ∷ []) ∷ (31 ∷ 0 ∷ 4 ∷ 8 ∷ 0x12 ∷ 0x34 ∷ 0x56 ∷ 0x78 ∷ [])
    ∷ (31 ∷ 0 ∷ 4 ∷ 9 ∷ 0x12 ∷ 0x34 ∷ 0x56 ∷ 0x78 ∷ 0x9F ∷ []) ∷ [])
    × (itemised 44 sixteen ≡ 44 ∷ 0 ∷ 5 ∷ 8 ∷ 0x01 ∷ 0x23 ∷ 0x45 ∷ 0x67 ∷ 0x89 ∷ 0xAB ∷ 0xCD ∷ 0xEF ∷ [])
    × (itemised (gpp 5) (release98 ++ span 0x41 0x46) ≡ 26 ∷ 5 ∷ 6 ∷ 4 ∷ 98 ∷ 0xAB ∷ 0xCD ∷ 0xEF ∷ [])
    × (itemised (gpp 5) (release99 ++ sixteen ++ span 0x31 0x36)
    ≡ 26 ∷ 5 ∷ 6 ∷ 12 ∷ 99 ∷ 0x01 ∷ 0x23 ∷ 0x45 ∷ 0x67 ∷ 0x89 ∷ 0xAB ∷ 0xCD ∷ 0xEF ∷ 0x12 ∷ 0x34 ∷ 0x56 ∷ [])
unfolding computing
packed = (refl, refl, refl, refl)
