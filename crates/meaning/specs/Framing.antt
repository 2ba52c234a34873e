-- The book, "Framing": the octets of an attribute and the areas that are made of such; then what stands at a place of an area, and the
-- walk over the area from the left, which finds the first fault. Assumes nothing.
use Rattle.std.specs.Prelude.{◌≡◌, ℕ, zero, suc, ◌+◌, ◌-◌, ◌<◌, Bool, cond, not, ◌&&◌, ◌||◌, List, [], ◌∷◌, ◌++◌, T, eqb, leb, ltb, length, take, drop, get_or}
use Rattle.meaning.specs.Octets.{Octets, number_of, octets_of}

-- The number that an attribute carries: a plain attribute's is its type, 0 to 255; a 3GPP sub-attribute's stands behind these.
abbrev pub gpp : ℕ → ℕ
gpp s = 256 + s

-- a carried number is a plain one
abbrev pub is_plain : ℕ → Bool
is_plain n = ltb n 256

-- the octets before the value of an attribute that carries a number: type and length, and of a 3GPP one also vendor, s and m
unfoldable pub head_length : (number : ℕ) → ℕ
head_length n = cond (is_plain n) 2 8

-- "An attribute is type, length, value": where it stands, the number it carries, its value
pub record Attribute : Type 0 where
  pub place : ℕ
  pub number : ℕ
  pub value : List ℕ

-- "vendor 10415"
abbrev pub vendor3gpp : ℕ
vendor3gpp = 10415

-- "type, length, value"; for 3GPP the id, then "number, length m, value": the octets of an attribute
unfoldable pub attribute_octets : (number : ℕ) → List ℕ → List ℕ
attribute_octets n v =
    cond (is_plain n) (n ∷ (length v + 2) ∷ v)
    (26 ∷ (length v + 8) ∷ octets_of 4 vendor3gpp ++ (n - 256) ∷ (length v + 2) ∷ v)

-- the area of some attributes
unfoldable pub area_of : List Attribute → List ℕ
area_of [] = []
area_of (a ∷ l) = attribute_octets a.number a.value ++ area_of l

-- a readable attribute carries the number with this value: its lengths fit, and a plain 26 is another vendor's
unfoldable pub carries : (number : ℕ) → List ℕ → Bool
carries n v =
    cond (is_plain n)
    (leb (length v) 253 && (not (eqb n 26) || (leb 5 (length v) && not (eqb (number_of (take 4 v)) vendor3gpp))))
    (leb (length v) 246)

-- an attribute that an area may carry
pub record Carried (a : Attribute) : Type 0 where
  pub low : a.number < 512
  pub carried : T (carries a.number a.value)
  pub octets : Octets a.value

-- each of the attributes is such
abbrev pub All : (Attribute → Type 0) → List Attribute → Type 0
All P [] = Unit {0}
All P (a ∷ l) = P a × All P l

-- an area is well framed: it is the octets, end to end, of some attributes that an area may carry
pub record WellFramed (area : List ℕ) : Type 0 where
  pub made : List Attribute
  pub each : All Carried made
  pub whole : area_of made ≡ area

-- ---- The walk

-- What stands at the front of some octets: an attribute with the number it carries, the octets before its value and all its octets;
-- a refusal, by its number in the book; or nothing at all.
pub data Found : Type 0 where
  attribute : (number head size : ℕ) → Found
  refused : (number : ℕ) → Found
  nothing : Found

-- "exactly one sub-attribute": m fits, and fills the n octets
unfoldable pub one_sub : (n m : ℕ) → Bool
one_sub n m = leb 2 m && (leb m 248 && eqb m (n - 6))

-- "a four-octet vendor id": type 26, of length n; r stands after the length octet
unfoldable pub vendor_found : (n : ℕ) → List ℕ → Found
vendor_found n r =
    cond (ltb n 7) (refused 7)
    (cond (eqb (number_of (take 4 r)) vendor3gpp)
    (cond (one_sub n (get_or r 5 0)) (attribute (gpp (get_or r 4 0)) 8 n) (refused 8))
    (attribute 26 2 n))

-- "length counts all its octets": what stands at the front, tested by 4, 5, 6, 7 and 8
unfoldable pub found : List ℕ → Found
found [] = nothing
found (t ∷ []) = refused 4
found (t ∷ n ∷ r) =
    cond (ltb n 2) (refused 5)
    (cond (ltb (length r + 2) n) (refused 6) (cond (eqb t 26) (vendor_found n r) (attribute t 2 n)))

-- what stands at a place of an area
unfoldable pub found_at : List ℕ → (place : ℕ) → Found
found_at area p = found (drop p area)

-- What was read from the left: attributes, and then the end, or the first refusal with its place.
pub data Walk : Type 0 where
  end : Walk
  broken : (number place : ℕ) → Walk
  next : Attribute → Walk → Walk

-- on from place p, at the front of l; rest passes over so many octets more than one
abbrev pub onward : (p : ℕ) (l : List ℕ) → (ℕ → Walk) → Found → Walk
onward p l rest (attribute n h s) = next (record { place = p; number = n; value = take (s - h) (drop h l) }) (rest (s - 1))
onward p l rest (refused k) = broken k p
onward p l rest nothing = end

-- the walk over octets that start at place p, the first k of them passed over
unfoldable pub from : (k p : ℕ) → List ℕ → Walk
from k p [] = end
from (suc k) p (x ∷ l) = from k (suc p) l
from zero p (x ∷ l) = onward p (x ∷ l) (λ k. from k (suc p) l) (found (x ∷ l))

-- the walk over an area from a place on
unfoldable pub walk_at : List ℕ → (place : ℕ) → Walk
walk_at area p = from 0 p (drop p area)

-- the walk over a whole area, "from the left": to its end, or to the first attribute that cannot be read
unfoldable pub walk : List ℕ → Walk
walk area = walk_at area 0

-- the attributes that a walk met
unfoldable pub attributes : Walk → List Attribute
attributes end = []
attributes (broken k p) = []
attributes (next a w) = a ∷ attributes w
