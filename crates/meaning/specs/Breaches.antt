-- The book, "Breaches": the entry, the lines of the rules, the breaches as a relation over an area's attributes, and the list
-- that has exactly these in rising order. Assumes nothing.
use Rattle.std.specs.Prelude.{◌≡◌, ◌⊎◌, ◌↔◌, ℕ, suc, ◌+◌, ◌*◌, ◌≤◌, Bool, not, ◌&&◌, ◌||◌, List, [], ◌∷◌, ◌++◌, T, eqb}
use Rattle.meaning.specs.Octets.{is_in, between}
use Rattle.meaning.specs.Versions.{current}
use Rattle.meaning.specs.Jobs.{Context}
use Rattle.meaning.specs.Framing.{gpp, Attribute}
use Rattle.meaning.specs.Shapes.{shape_of, meets, allowed}
use Rattle.meaning.specs.Sheet.{type_of, sub_of}
use Rattle.meaning.specs.Presence.{is_session, not_permitted, mandatory, conditional}

-- "one 32-bit number", made of place, rule, type and sub-attribute number
unfoldable pub entry : (place rule number : ℕ) → ℕ
entry place rule n = place * 1048576 + (rule * 65536 + (type_of n * 256 + sub_of n))

-- ---- The lines of the rules

-- "shape met", of an attribute
abbrev pub met : Attribute → Bool
met a = meets current (shape_of a.number) a.value

-- rule 1: "has a shape and misses it"
unfoldable pub misses : Attribute → Bool
misses a = not (met a)

-- rule 2: "shape met, value not allowed"
unfoldable pub offends : Context → Attribute → Bool
offends c a = met a && not (allowed c a.number a.value)

-- "3GPP 1 to 12, 18"
abbrev pub is_listed3gpp : (number : ℕ) → Bool
is_listed3gpp n = between (gpp 1) (gpp 12) n || eqb n (gpp 18)

-- rule 3: the numbers that may stand once only
unfoldable pub once_only : (number : ℕ) → Bool
once_only n =
    between 1 4 n || (between 6 9 n || (between 30 32 n || (between 40 49 n || (is_in n (60 ∷ 61 ∷ []) || is_listed3gpp n))))

-- rule 4: "3GPP 11 outside kind 3", all listed of 3GPP in ON and OFF, and the plain lines
unfoldable pub barred : Context → (number : ℕ) → Bool
barred c n =
    (eqb n (gpp 11) && not (eqb c.kind 3)) || ((between 4 5 c.kind && is_listed3gpp n) || not_permitted c n)

-- rule 7: "Kinds 1, 2, 3, 6", where 3GPP 3 goes with plain attribute 7
abbrev pub asks_pdp_type : Context → Bool
asks_pdp_type c = eqb c.kind 1 || is_session c.kind

-- ---- The relation

-- a is one of the list
abbrev pub Among : {A : Type 0} → A → List A → Type 0
Among a [] = ⊥
Among a (x ∷ l) = (a ≡ x) ⊎ Among a l

-- "counts as present whatever its value"
pub record Present (n : ℕ) (l : List Attribute) : Type 0 where
  pub which : Attribute
  pub among : Among which l
  pub carries : which.number ≡ n

-- no attribute carries the number ("absent")
abbrev pub Absent : ℕ → List Attribute → Type 0
Absent n l = Present n l → ⊥

-- rule 3, "an earlier attribute": an attribute of the list with those before it
pub record After (l : List Attribute) (a : Attribute) (earlier : List Attribute) : Type 0 where
  pub later : List Attribute
  pub whole : l ≡ earlier ++ a ∷ later

-- rule 7: "conditional", n being wanted among the attributes l
pub data Wanted (c : Context) (l : List Attribute) (n : ℕ) : Type 0 where
  by_name : Absent 32 l → n ≡ 4 → Wanted c l n
  by_flags : T (conditional c n) → Wanted c l n
  by_protocol : T (asks_pdp_type c) → Present 7 l → n ≡ gpp 3 → Wanted c l n

-- The breaches, one case for each rule: e is the entry, "at the attribute's place" or "at the area's length".
pub data Breach (c : Context) (size : ℕ) (l : List Attribute) (e : ℕ) : Type 0 where
  shape1 : (a : Attribute) → Among a l → T (misses a) → e ≡ entry a.place 1 a.number → Breach c size l e
  value2 : (a : Attribute) → Among a l → T (offends c a) → e ≡ entry a.place 2 a.number → Breach c size l e
  again3 : (a : Attribute) (earlier : List Attribute) → After l a earlier → T (once_only a.number)
      → Present a.number earlier → e ≡ entry a.place 3 a.number → Breach c size l e
  here4 : (a : Attribute) → Among a l → T (barred c a.number) → e ≡ entry a.place 4 a.number → Breach c size l e
  both5 : c.kind ≡ 1 → Present 2 l → Present 3 l → e ≡ entry size 5 3 → Breach c size l e
  lacks6 : (n : ℕ) → T (mandatory c n) → Absent n l → e ≡ entry size 6 n → Breach c size l e
  wants7 : (n : ℕ) → Wanted c l n → Absent n l → e ≡ entry size 7 n → Breach c size l e

-- ---- The list

-- "in rising order": each is at least b, and each is above the one before
abbrev pub RisingFrom : (b : ℕ) → List ℕ → Type 0
RisingFrom b [] = Unit {0}
RisingFrom b (x ∷ l) = (b ≤ x) × RisingFrom (suc x) l

-- a list that rises and has exactly the numbers of P
pub record Lists (l : List ℕ) (P : ℕ → Type 0) : Type 0 where
  pub rising : RisingFrom 0 l
  pub exact : (e : ℕ) → Among e l ↔ P e
