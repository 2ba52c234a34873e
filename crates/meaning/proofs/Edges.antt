-- The edges of the lines, computed: for each kind of answer a table of inputs with what the definitions say of them.
-- Assumes nothing.
use mathlib.Core.Path.{◌≡◌, refl}
use mathlib.Core.List.{List, [], ◌∷◌, ◌++◌, map}
use Prim.Native.Nat.{ℕ, ◌*◌}
use lib.ListN.{replicate}
use Rattle.meaning.specs.Versions.{current}
use Rattle.meaning.specs.Framing.{gpp, attribute_octets}
use Rattle.meaning.specs.Jobs.{comes}
use Rattle.meaning.specs.Refusals.{Refusal, none, refusal, area_refusal}
use Rattle.meaning.specs.Sheet.{form, stored, mark, judged}
use Rattle.meaning.specs.Breaches.{entry}
use Rattle.meaning.specs.Listing.{list_of}
use Rattle.meaning.specs.Answers.{given, refused, read_answer, check_answer, write_answer}
use Rattle.meaning.specs.Seen.{area_a, sheet_a}
use Rattle.meaning.proofs.Computing.{computing}

-- ---- Refusals 1 to 8

pub record OfArea : Type 0 where
  pub kind : ℕ
  pub flags : ℕ
  pub area : List ℕ
  pub says : Refusal

abbrev pub areas : List OfArea
areas =
    record { kind = 0; flags = 3; area = 4 ∷ []; says = refusal 1 0 }
    ∷ record { kind = 7; flags = 0; area = []; says = refusal 1 0 }
    ∷ record { kind = 6; flags = 7; area = replicate 4077 0; says = refusal 2 0 }
    ∷ record { kind = 1; flags = 6; area = replicate 4077 0; says = refusal 3 4077 }
    ∷ record { kind = 1; flags = 5; area = 0 ∷ 2 ∷ 4 ∷ []; says = refusal 4 2 }
    ∷ record { kind = 1; flags = 4; area = 255 ∷ 2 ∷ 4 ∷ 0 ∷ []; says = refusal 5 2 }
    ∷ record { kind = 1; flags = 2; area = 4 ∷ 3 ∷ []; says = refusal 6 0 }
    ∷ record { kind = 1; flags = 1; area = 26 ∷ 6 ∷ 0 ∷ 0 ∷ 0 ∷ 1 ∷ []; says = refusal 7 0 }
    ∷ record { kind = 1; flags = 0; area = 26 ∷ 7 ∷ 0 ∷ 0 ∷ 40 ∷ 175 ∷ 1 ∷ []; says = refusal 8 0 }
    ∷ record { kind = 1; flags = 0; area = 26 ∷ 7 ∷ 1 ∷ 0 ∷ 40 ∷ 175 ∷ 1 ∷ []; says = none }
    ∷ record { kind = 1; flags = 0; area = 26 ∷ 8 ∷ 0 ∷ 0 ∷ 40 ∷ 175 ∷ 0 ∷ 2 ∷ []; says = none }
    ∷ record { kind = 1; flags = 0; area = 26 ∷ 8 ∷ 0 ∷ 0 ∷ 40 ∷ 175 ∷ 0 ∷ 1 ∷ []; says = refusal 8 0 }
    ∷ record { kind = 1; flags = 0; area = 26 ∷ 9 ∷ 0 ∷ 0 ∷ 40 ∷ 175 ∷ 1 ∷ 2 ∷ 0 ∷ []; says = refusal 8 0 }
    ∷ []

pub areas_say : map (λ (c : OfArea). area_refusal c.kind c.flags c.area) areas ≡ map (λ (c : OfArea). c.says) areas
unfolding computing
areas_say = refl

-- ---- Forms and what is stored

pub record OfValue : Type 0 where
  pub number : ℕ
  pub value : List ℕ
  pub form : ℕ
  pub stored : List ℕ

-- the value stands as it is, in that form
abbrev as_it_stands : ℕ → List ℕ → ℕ → OfValue
as_it_stands n v f = record { number = n; value = v; form = f; stored = v }

abbrev pub shaped : List OfValue
shaped =
    as_it_stands 6 (0 ∷ 0 ∷ 0 ∷ 9 ∷ []) 2
    ∷ as_it_stands 6 (0 ∷ 0 ∷ 9 ∷ []) 0
    ∷ as_it_stands 41 (replicate 4 255) 2
    ∷ as_it_stands 44 (replicate 4 255) 0
    ∷ as_it_stands 8 (10 ∷ 0 ∷ 0 ∷ 1 ∷ []) 3
    ∷ as_it_stands 5 (0 ∷ 0 ∷ 0 ∷ 1 ∷ []) 0
    ∷ as_it_stands 1 (65 ∷ []) 0
    ∷ as_it_stands 2 (replicate 16 7) 0
    ∷ as_it_stands 26 (0 ∷ 0 ∷ 0 ∷ 9 ∷ 1 ∷ []) 0
    ∷ record { number = 31; value = 0x39 ∷ []; form = 4; stored = 0x9F ∷ [] }
    ∷ record { number = 31; value = replicate 15 0x31; form = 4; stored = 0x11 ∷ 0x11 ∷ 0x11 ∷ 0x11 ∷ 0x11 ∷ 0x11 ∷ 0x11 ∷ 0x1F ∷ [] }
    ∷ as_it_stands 31 (replicate 16 0x31) 0
    ∷ as_it_stands 31 [] 0
    ∷ as_it_stands 31 (0x3A ∷ []) 0
    ∷ record { number = 44; value = replicate 14 0x30 ++ 0x41 ∷ 0x46 ∷ []; form = 5; stored = replicate 7 0 ++ 0xAF ∷ [] }
    ∷ as_it_stands 44 (replicate 14 0x30 ++ 0x61 ∷ 0x46 ∷ []) 0
    ∷ as_it_stands 44 (replicate 14 0x30 ++ 0x47 ∷ 0x46 ∷ []) 0
    ∷ as_it_stands 44 (replicate 14 0x30) 0
    ∷ record { number = gpp 1; value = 0x31 ∷ 0x32 ∷ []; form = 4; stored = 0x12 ∷ [] }
    ∷ as_it_stands (gpp 3) (0 ∷ 0 ∷ 0 ∷ 1 ∷ []) 2
    ∷ as_it_stands (gpp 7) (10 ∷ 0 ∷ 0 ∷ 1 ∷ []) 3
    ∷ record { number = gpp 5; value = 0x39 ∷ 0x38 ∷ 0x2D ∷ 0x31 ∷ 0x32 ∷ 0x33 ∷ 0x34 ∷ 0x35 ∷ 0x36 ∷ []; form = 6; stored = 98 ∷ 0x12 ∷ 0x34 ∷ 0x56 ∷ [] }
    ∷ record { number = gpp 5; value = 0x39 ∷ 0x39 ∷ 0x2D ∷ replicate 22 0x46; form = 6; stored = 99 ∷ replicate 11 0xFF }
    ∷ as_it_stands (gpp 5) (0x39 ∷ 0x38 ∷ 0x2D ∷ replicate 22 0x46) 1
    ∷ as_it_stands (gpp 5) (0x39 ∷ 0x37 ∷ 0x2D ∷ replicate 6 0x46) 1
    ∷ as_it_stands (gpp 5) (0x39 ∷ 0x38 ∷ 0x20 ∷ replicate 6 0x46) 1
    ∷ as_it_stands (gpp 8) (replicate 4 0x30) 1
    ∷ as_it_stands (gpp 9) (replicate 7 0x30) 1
    ∷ record { number = gpp 18; value = replicate 6 0x30; form = 4; stored = 0 ∷ 0 ∷ 0 ∷ [] }
    ∷ record { number = gpp 10; value = 0x46 ∷ []; form = 7; stored = 15 ∷ [] }
    ∷ as_it_stands (gpp 10) (0x66 ∷ []) 1
    ∷ as_it_stands (gpp 11) (0x07 ∷ []) 7
    ∷ record { number = gpp 12; value = 0x39 ∷ []; form = 7; stored = 9 ∷ [] }
    ∷ as_it_stands (gpp 12) (0x41 ∷ []) 1
    ∷ as_it_stands (gpp 0) (0 ∷ 0 ∷ 0 ∷ 1 ∷ []) 1
    ∷ as_it_stands (gpp 13) (0 ∷ 0 ∷ 0 ∷ 1 ∷ []) 1
    ∷ []

pub forms_say : map (λ (c : OfValue). form current c.number c.value) shaped ≡ map (λ (c : OfValue). c.form) shaped
unfolding computing
forms_say = refl

pub stored_say : map (λ (c : OfValue). stored current c.number c.value) shaped ≡ map (λ (c : OfValue). c.stored) shaped
unfolding computing
stored_say = refl

-- ---- Refusals 20 to 24

pub record OfSheet : Type 0 where
  pub sheet : List ℕ
  pub says : Refusal

-- the mark and version 1
abbrev pub front : List ℕ
front = mark ++ 0 ∷ 1 ∷ []

-- a sheet of kind 1, flags 0 that announces so many items, with these octets after its head
abbrev announces : ℕ → List ℕ → Refusal → OfSheet
announces n l r = record { sheet = front ++ 1 ∷ 0 ∷ 0 ∷ n ∷ l; says = r }

abbrev pub sheets : List OfSheet
sheets =
    record { sheet = []; says = refusal 20 0 }
    ∷ record { sheet = front ++ 1 ∷ 0 ∷ 0 ∷ []; says = refusal 20 0 }
    ∷ record { sheet = 0x47 ∷ 0x49 ∷ 0x52 ∷ 0 ∷ 2 ∷ 0 ∷ 0 ∷ 0 ∷ 0 ∷ []; says = refusal 20 0 }
    ∷ record { sheet = 0x47 ∷ 0x49 ∷ 0x52 ∷ 1 ∷ 1 ∷ 1 ∷ 0 ∷ 0 ∷ 0 ∷ []; says = refusal 20 0 }
    ∷ record { sheet = front ++ 7 ∷ 0 ∷ 0 ∷ 1 ∷ []; says = refusal 21 0 }
    ∷ record { sheet = front ++ 1 ∷ 3 ∷ 0 ∷ 1 ∷ []; says = refusal 21 0 }
    ∷ announces 0 [] none
    ∷ announces 0 (4 ∷ []) (refusal 22 9)
    ∷ announces 1 [] (refusal 22 9)
    ∷ announces 1 (0 ∷ 0 ∷ 0 ∷ []) (refusal 22 9)
    ∷ announces 1 (0 ∷ 0 ∷ 0 ∷ 1 ∷ []) (refusal 22 9)
    ∷ announces 2 (0 ∷ 0 ∷ 0 ∷ 0 ∷ []) (refusal 22 13)
    ∷ announces 1 (0 ∷ 0 ∷ 9 ∷ 1 ∷ []) (refusal 22 9)
    ∷ announces 1 (0 ∷ 0 ∷ 9 ∷ 1 ∷ 5 ∷ []) (refusal 23 9)
    ∷ announces 1 (31 ∷ 0 ∷ 132 ∷ 2 ∷ 0x12 ∷ []) (refusal 22 9)
    ∷ announces 2 (0 ∷ 1 ∷ 0 ∷ 0 ∷ 0 ∷ []) (refusal 23 9)
    ∷ announces 1 (0 ∷ 1 ∷ 0 ∷ 0 ∷ []) (refusal 23 9)
    ∷ announces 1 (0 ∷ 0 ∷ 1 ∷ 0 ∷ []) (refusal 23 9)
    ∷ announces 1 (6 ∷ 0 ∷ 0 ∷ 4 ∷ 0 ∷ 0 ∷ 0 ∷ 1 ∷ []) (refusal 23 9)
    ∷ announces 1 (6 ∷ 0 ∷ 2 ∷ 4 ∷ 0 ∷ 0 ∷ 0 ∷ 1 ∷ []) none
    ∷ announces 1 (6 ∷ 0 ∷ 3 ∷ 4 ∷ 0 ∷ 0 ∷ 0 ∷ 1 ∷ []) (refusal 23 9)
    ∷ announces 1 (0 ∷ 0 ∷ 0 ∷ 253 ∷ replicate 253 7) none
    ∷ announces 1 (0 ∷ 0 ∷ 0 ∷ 254 ∷ replicate 254 7) (refusal 23 9)
    ∷ announces 1 (26 ∷ 0 ∷ 1 ∷ 246 ∷ replicate 246 7) none
    ∷ announces 1 (26 ∷ 0 ∷ 1 ∷ 247 ∷ replicate 247 7) (refusal 23 9)
    ∷ announces 1 (26 ∷ 0 ∷ 0 ∷ 4 ∷ 0 ∷ 0 ∷ 0 ∷ 9 ∷ []) (refusal 23 9)
    ∷ announces 1 (26 ∷ 0 ∷ 0 ∷ 5 ∷ 0 ∷ 0 ∷ 0 ∷ 9 ∷ 0 ∷ []) none
    ∷ announces 1 (26 ∷ 0 ∷ 0 ∷ 5 ∷ 0 ∷ 0 ∷ 40 ∷ 175 ∷ 0 ∷ []) (refusal 23 9)
    ∷ announces 1 (26 ∷ 1 ∷ 0 ∷ 5 ∷ 0 ∷ 0 ∷ 0 ∷ 9 ∷ 0 ∷ []) (refusal 23 9)
    ∷ announces 1 (31 ∷ 0 ∷ 4 ∷ 3 ∷ 0x12 ∷ 0x3F ∷ []) none
    ∷ announces 1 (31 ∷ 0 ∷ 4 ∷ 3 ∷ 0x12 ∷ 0x30 ∷ []) (refusal 23 9)
    ∷ announces 1 (31 ∷ 0 ∷ 4 ∷ 2 ∷ 0x1A ∷ []) (refusal 23 9)
    ∷ announces 1 (31 ∷ 0 ∷ 4 ∷ 0 ∷ []) (refusal 23 9)
    ∷ announces 1 (31 ∷ 0 ∷ 4 ∷ 16 ∷ replicate 8 0x11) (refusal 23 9)
    ∷ announces 1 (31 ∷ 0 ∷ 4 ∷ 16 ∷ replicate 7 0x11) (refusal 22 9)
    ∷ announces 1 (26 ∷ 8 ∷ 4 ∷ 7 ∷ replicate 4 0x1F) (refusal 23 9)
    ∷ announces 1 (44 ∷ 0 ∷ 5 ∷ 8 ∷ replicate 8 0xAF) none
    ∷ announces 1 (44 ∷ 0 ∷ 5 ∷ 7 ∷ replicate 7 0xAF) (refusal 23 9)
    ∷ announces 1 (26 ∷ 5 ∷ 6 ∷ 4 ∷ 98 ∷ 0xAF ∷ 0 ∷ 1 ∷ []) none
    ∷ announces 1 (26 ∷ 5 ∷ 6 ∷ 4 ∷ 99 ∷ 0xAF ∷ 0 ∷ 1 ∷ []) (refusal 23 9)
    ∷ announces 1 (26 ∷ 5 ∷ 6 ∷ 4 ∷ 97 ∷ 0xAF ∷ 0 ∷ 1 ∷ []) (refusal 23 9)
    ∷ announces 1 (26 ∷ 10 ∷ 7 ∷ 1 ∷ 15 ∷ []) none
    ∷ announces 1 (26 ∷ 10 ∷ 7 ∷ 1 ∷ 16 ∷ []) (refusal 23 9)
    ∷ announces 1 (26 ∷ 11 ∷ 7 ∷ 1 ∷ 200 ∷ []) none
    ∷ announces 1 (26 ∷ 12 ∷ 7 ∷ 1 ∷ 9 ∷ []) none
    ∷ announces 1 (26 ∷ 12 ∷ 7 ∷ 1 ∷ 10 ∷ []) (refusal 23 9)
    ∷ announces 2 (26 ∷ 12 ∷ 7 ∷ 1 ∷ 10 ∷ 0 ∷ []) (refusal 23 9)
    ∷ announces 1 (0 ∷ 0 ∷ 0 ∷ 0 ∷ 0 ∷ 0 ∷ []) (refusal 22 13)
    ∷ record { sheet = front ++ 1 ∷ 0 ∷ 7 ∷ 247 ∷ replicate (4 * 2039) 0; says = refusal 24 4078 }
    ∷ record { sheet = front ++ 1 ∷ 0 ∷ 7 ∷ 248 ∷ replicate (4 * 2039) 0 ++ 0 ∷ 0 ∷ 9 ∷ 0 ∷ []; says = refusal 23 8165 }
    ∷ record { sheet = sheet_a; says = none }
    ∷ []

pub sheets_say : map (λ (c : OfSheet). judged c.sheet) sheets ≡ map (λ (c : OfSheet). c.says) sheets
unfolding computing
sheets_say = refl

-- ---- Refusals 9, 10 and 25: the room

pub rooms_say :
    (read_answer 4 0 area_a 24 ≡ given sheet_a)
    × (read_answer 4 0 area_a 23 ≡ refused 9 24)
    × (check_answer (comes 3 0) area_a 3 ≡ refused 10 4)
    × (write_answer sheet_a 18 ≡ refused 25 19)
    × (write_answer sheet_a 19 ≡ given (record { kind = 4; flags = 0; area = area_a }))
unfolding computing
rooms_say = (refl, refl, refl, refl, refl)

-- ---- Breaches

pub record OfList : Type 0 where
  pub kind : ℕ
  pub flags : ℕ
  pub area : List ℕ
  pub says : List ℕ

-- four octets with a low one
abbrev four : ℕ → List ℕ
four x = 0 ∷ 0 ∷ 0 ∷ x ∷ []

-- an Access-Request of kind 1 with no flags and no breach, 12 octets, and something more
abbrev asks : List ℕ → List ℕ → OfList
asks more says =
    record { kind = 1; flags = 0; area = attribute_octets 1 (65 ∷ []) ++ attribute_octets 4 (four 1) ++ attribute_octets 30 (65 ∷ []) ++ more; says = says }

-- the accounting of a session with a status, 39 octets, and something more
abbrev counts : (kind flags status : ℕ) → List ℕ → List ℕ → OfList
counts kind flags status more says =
    record { kind = kind; flags = flags; area = attribute_octets 4 (four 1) ++ attribute_octets 8 (four 2) ++ attribute_octets 30 (65 ∷ []) ++ attribute_octets 40 (four status) ++ attribute_octets 44 (replicate 16 0x30) ++ more; says = says }

abbrev pub lists : List OfList
lists =
    asks [] []
    ∷ asks (attribute_octets 2 (replicate 16 0)) []
    ∷ asks (attribute_octets 2 (replicate 128 0)) []
    ∷ asks (attribute_octets 2 (replicate 144 0)) (entry 12 1 2 ∷ [])
    ∷ asks (attribute_octets 2 (replicate 17 0)) (entry 12 1 2 ∷ [])
    ∷ asks (attribute_octets 2 []) (entry 12 1 2 ∷ [])
    ∷ asks (attribute_octets 3 (replicate 17 0)) []
    ∷ asks (attribute_octets 3 (replicate 16 0)) (entry 12 1 3 ∷ [])
    ∷ asks (attribute_octets 3 (replicate 17 0) ++ attribute_octets 2 (replicate 16 0)) (entry 49 5 3 ∷ [])
    ∷ asks (attribute_octets 60 (replicate 5 0)) []
    ∷ asks (attribute_octets 60 (replicate 4 0)) (entry 12 1 60 ∷ [])
    ∷ asks (attribute_octets 18 [] ++ attribute_octets 24 [] ++ attribute_octets 25 [] ++ attribute_octets 32 []) (entry 12 1 18 ∷ entry 14 1 24 ∷ entry 16 1 25 ∷ entry 18 1 32 ∷ [])
    ∷ asks (attribute_octets 6 (four 2)) []
    ∷ asks (attribute_octets 6 (four 1)) (entry 12 2 6 ∷ [])
    ∷ asks (attribute_octets 7 (four 1) ++ attribute_octets (gpp 3) (four 0)) (entry 12 2 7 ∷ [])
    ∷ asks (attribute_octets 45 (four 2) ++ attribute_octets 49 (four 18)) []
    ∷ asks (attribute_octets 45 (four 3) ++ attribute_octets 49 (four 19)) (entry 12 2 45 ∷ entry 18 2 49 ∷ [])
    ∷ asks (attribute_octets 45 (four 0) ++ attribute_octets 49 (four 0)) (entry 12 2 45 ∷ entry 18 2 49 ∷ [])
    ∷ asks (attribute_octets 40 (four 99)) []
    ∷ asks (attribute_octets (gpp 3) (four 1)) (entry 12 2 (gpp 3) ∷ [])
    ∷ asks (attribute_octets (gpp 11) (254 ∷ [])) (entry 12 2 (gpp 11) ∷ entry 12 4 (gpp 11) ∷ [])
    ∷ asks (attribute_octets (gpp 12) (0x32 ∷ [])) []
    ∷ asks (attribute_octets (gpp 12) (0x33 ∷ [])) (entry 12 2 (gpp 12) ∷ [])
    ∷ asks (attribute_octets 25 (1 ∷ []) ++ attribute_octets 25 (1 ∷ [])) []
    ∷ asks (attribute_octets (gpp 13) [] ++ attribute_octets (gpp 13) [] ++ attribute_octets 5 [] ++ attribute_octets 5 []) []
    ∷ asks (attribute_octets (gpp 18) (replicate 5 0x31) ++ attribute_octets 18 (1 ∷ []) ++ attribute_octets (gpp 18) (replicate 6 0x31)) (entry 28 3 (gpp 18) ∷ [])
    ∷ asks (attribute_octets 1 [] ++ attribute_octets (gpp 1) (0x31 ∷ []) ++ attribute_octets 1 (66 ∷ [])) (entry 12 1 1 ∷ entry 12 3 1 ∷ entry 23 3 1 ∷ [])
    ∷ record { kind = 1; flags = 1; area = []; says = entry 0 6 1 ∷ entry 0 6 30 ∷ entry 0 7 2 ∷ entry 0 7 4 ∷ [] }
    ∷ record { kind = 1; flags = 6; area = attribute_octets 7 (four 7); says = entry 6 6 1 ∷ entry 6 6 30 ∷ entry 6 7 3 ∷ entry 6 7 4 ∷ entry 6 7 (gpp 3) ∷ entry 6 7 60 ∷ [] }
    ∷ record { kind = 5; flags = 6; area = attribute_octets 7 (four 7) ++ attribute_octets 32 (65 ∷ []); says = entry 9 6 40 ∷ [] }
    ∷ counts 2 0 1 [] []
    ∷ counts 2 4 1 [] (entry 39 7 25 ∷ [])
    ∷ counts 2 4 1 (attribute_octets 25 (1 ∷ [])) []
    ∷ counts 2 1 1 (attribute_octets 25 (1 ∷ [])) (entry 39 4 25 ∷ [])
    ∷ counts 3 4 2 [] []
    ∷ counts 3 0 1 [] (entry 15 2 40 ∷ [])
    ∷ counts 6 0 3 (attribute_octets 25 []) (entry 39 1 25 ∷ entry 39 4 25 ∷ [])
    ∷ counts 4 0 7 (attribute_octets 25 (1 ∷ [])) []
    ∷ counts 5 0 8 (attribute_octets (gpp 11) (255 ∷ [])) (entry 39 4 (gpp 11) ∷ [])
    ∷ counts 3 0 2 (attribute_octets (gpp 11) (255 ∷ [])) []
    ∷ counts 2 0 1 (attribute_octets 2 (replicate 16 0) ++ attribute_octets 3 (replicate 17 0) ++ attribute_octets 18 (1 ∷ []) ++ attribute_octets 24 (1 ∷ [])) (entry 39 4 2 ∷ entry 57 4 3 ∷ entry 76 4 18 ∷ entry 79 4 24 ∷ [])
    ∷ counts 4 0 7 (attribute_octets (gpp 12) (0x30 ∷ []) ++ attribute_octets (gpp 13) (0x30 ∷ [])) (entry 39 4 (gpp 12) ∷ [])
    ∷ []

pub lists_say : map (λ (c : OfList). list_of (comes c.kind c.flags) c.area) lists ≡ map (λ (c : OfList). c.says) lists
unfolding computing
lists_say = refl
