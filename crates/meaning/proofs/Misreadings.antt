-- "Misreadings that must not pass": for each, a fact of the meaning that the misreading would make false.
-- Assumes nothing.
use mathlib.Core.Path.{◌≡◌, refl}
use mathlib.Core.Bool.{not}
use mathlib.Core.List.{List, [], ◌∷◌, ◌++◌, map}
use Prim.Native.Nat.{ℕ}
use lib.ListN.{replicate}
use Rattle.meaning.specs.Octets.{same}
use Rattle.meaning.specs.Versions.{current}
use Rattle.meaning.specs.Framing.{gpp, attribute_octets}
use Rattle.meaning.specs.Jobs.{comes}
use Rattle.meaning.specs.Refusals.{none, refusal, area_refusal}
use Rattle.meaning.specs.Sheet.{item}
use Rattle.meaning.specs.Breaches.{entry}
use Rattle.meaning.specs.Listing.{list_of}
use Rattle.meaning.proofs.Computing.{computing}
use Rattle.meaning.proofs.Enumerated.{those}

-- an Access-Request without a departure: User-Name, NAS-IP-Address and Called-Station-Id
abbrev pub plain_request : List ℕ
plain_request = attribute_octets 1 (65 ∷ []) ++ attribute_octets 4 (10 ∷ 0 ∷ 0 ∷ 1 ∷ []) ++ attribute_octets 30 (65 ∷ [])

-- Attribute 7 is Framed-Protocol, not 3GPP 7: the GGSN address asks for no 3GPP 3, a Framed-Protocol does.
pub seven_is_plain : list_of (comes 1 0) (plain_request ++ attribute_octets (gpp 7) (10 ∷ 0 ∷ 0 ∷ 2 ∷ [])) ≡ []
unfolding computing
seven_is_plain = refl

pub seven_asks : list_of (comes 1 0) (plain_request ++ attribute_octets 7 (0 ∷ 0 ∷ 0 ∷ 7 ∷ [])) ≡ entry 18 7 (gpp 3) ∷ []
unfolding computing
seven_asks = refl

-- A bad PDP Type is misshapen, rule 1, and present: no entry of rule 7.
pub bad_is_present :
    list_of (comes 1 0) (plain_request ++ attribute_octets 7 (0 ∷ 0 ∷ 0 ∷ 7 ∷ []) ++ attribute_octets (gpp 3) (0 ∷ []))
    ≡ entry 18 1 (gpp 3) ∷ []
unfolding computing
bad_is_present = refl

-- A 5-digit MCC-MNC is packed as five, its last low half 15; six digits are another item.
pub five_digits :
    item current (gpp 8) (0x30 ∷ 0x30 ∷ 0x31 ∷ 0x30 ∷ 0x31 ∷ []) ≡ 0x1A ∷ 0x08 ∷ 0x04 ∷ 0x05 ∷ 0x00 ∷ 0x10 ∷ 0x1F ∷ []
unfolding computing
five_digits = refl

pub six_digits :
    item current (gpp 8) (0x30 ∷ 0x30 ∷ 0x31 ∷ 0x30 ∷ 0x31 ∷ 0x30 ∷ []) ≡ 0x1A ∷ 0x08 ∷ 0x04 ∷ 0x06 ∷ 0x00 ∷ 0x10 ∷ 0x10 ∷ []
unfolding computing
six_digits = refl

-- Rule 3 looks at every earlier attribute, not at neighbours only.
pub far_apart : list_of (comes 1 0) (plain_request ++ attribute_octets 1 (66 ∷ [])) ≡ entry 12 3 1 ∷ []
unfolding computing
far_apart = refl

-- A sub-attribute of 248 octets is read, one of 249 is refused by 8.
pub m_248 : area_refusal 1 0 (attribute_octets (gpp 13) (replicate 246 0)) ≡ none
unfolding computing
m_248 = refl

pub m_249 : area_refusal 1 0 (attribute_octets (gpp 13) (replicate 247 0)) ≡ refusal 8 0
unfolding computing
m_249 = refl

-- ---- Request 1: the status of ON and OFF

-- a NAS-IP-Address, and a status with that value
abbrev statused : List ℕ → List ℕ
statused v = attribute_octets 4 (10 ∷ 0 ∷ 0 ∷ 1 ∷ []) ++ attribute_octets 40 v

-- ON and OFF ask for nothing else: no session id.
pub status_is_enough :
    (list_of (comes 4 0) (statused (0 ∷ 0 ∷ 0 ∷ 7 ∷ [])) ≡ []) × (list_of (comes 5 0) (statused (0 ∷ 0 ∷ 0 ∷ 8 ∷ [])) ≡ [])
unfolding computing
status_is_enough = (refl, refl)

-- the statuses below 256 that give another list than that of a wrong value alone
abbrev not_wrong : (kind : ℕ) → List ℕ
not_wrong kind = those (λ x. not (same (list_of (comes kind 0) (statused (0 ∷ 0 ∷ 0 ∷ x ∷ []))) (entry 6 2 40 ∷ []))) 256

-- A wrong status is present, rule 2 and none of rule 6: so is every status but the kind's own.
pub wrong_status_is_present : map not_wrong (4 ∷ 5 ∷ []) ≡ (7 ∷ []) ∷ (8 ∷ []) ∷ []
unfolding computing
wrong_status_is_present = refl

-- A misshapen one is present too: rule 1 and none of rule 6.
pub misshapen_status_is_present : map (λ kind. list_of (comes kind 0) (statused [])) (4 ∷ 5 ∷ []) ≡ replicate 2 (entry 6 1 40 ∷ [])
unfolding computing
misshapen_status_is_present = refl

-- An Access-Request is asked for no status.
pub no_status_in_request : list_of (comes 1 0) plain_request ≡ []
unfolding computing
no_status_in_request = refl
