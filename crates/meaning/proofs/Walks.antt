-- The walk over an area: one unfolding for each thing that can stand at a place. Assumes nothing.
use mathlib.Core.Path.{◌≡◌, refl, sym, ap, subst, ◌∙◌}
use mathlib.Core.Bool.{Bool, true, false, cond, ◌&&◌}
use mathlib.Core.List.{List, [], ◌∷◌}
use Prim.Native.Nat.{ℕ, zero, suc, ◌+◌, ◌-◌, ◌≤◌}
use native.Mathlib.Omega.{arith}
use native.Mathlib.Nat.{add-zero}
use lib.Dec.{ltb, leb, eqb}
use lib.ListN.{length, take, drop, get_or}
use lib.Seq.{drop-drop}
use borrow.Author.Tests.{ltb-false, leb-true, eqb-true}
use Rattle.meaning.specs.Octets.{number_of}
use Rattle.meaning.specs.Framing.{gpp, Found, attribute, refused, nothing, one_sub, vendor_found, found, found_at, end, broken, next}
use Rattle.meaning.specs.Framing.{vendor3gpp, onward, from, walk_at}

-- An attribute's head is two octets or more, and it lies within so many octets.
abbrev pub Sized : ℕ → Found → Type 0
Sized k (attribute n h s) = (2 ≤ h) × (h ≤ s) × (s ≤ k)
Sized k (refused x) = Unit {0}
Sized k nothing = Unit {0}

vendor_sized : (n k : ℕ) (r : List ℕ) → 2 ≤ n → n ≤ k → Sized k (vendor_found n r)
unfolding vendor_found one_sub
vendor_sized n k r h m = go (ltb n 7) (eqb (number_of (take 4 r)) vendor3gpp) (leb 2 (get_or r 5 0)) (leb (get_or r 5 0) 248) (eqb (get_or r 5 0) (n - 6)) refl refl
  where
    go :
        (a b x y z : Bool) → leb 2 (get_or r 5 0) ≡ x → eqb (get_or r 5 0) (n - 6) ≡ z
        → Sized k (cond a (refused 7) (cond b (cond (x && (y && z)) (attribute (gpp (get_or r 4 0)) 8 n) (refused 8)) (attribute 26 2 n)))
    go true b x y z p q = tt
    go false false x y z p q = (omega arith, omega arith, omega arith)
    go false true false y z p q = tt
    go false true true false z p q = tt
    go false true true true false p q = tt
    go false true true true true p q =
        let u : 2 ≤ get_or r 5 0 = leb-true _ _ p in
        let v : get_or r 5 0 ≡ n - 6 = eqb-true _ _ q in
        (omega arith, omega arith, omega arith)

pub found_sized : (l : List ℕ) → Sized (length l) (found l)
unfolding found
found_sized [] = tt
found_sized (t ∷ []) = tt
found_sized (t ∷ n ∷ r) = go (ltb n 2) (ltb (length r + 2) n) (eqb t 26) refl refl
  where
    go :
        (a b x : Bool) → ltb n 2 ≡ a → ltb (length r + 2) n ≡ b
        → Sized (suc (suc (length r))) (cond a (refused 5) (cond b (refused 6) (cond x (vendor_found n r) (attribute t 2 n))))
    go true b x p q = tt
    go false true x p q = tt
    go false false true p q =
        let v : n ≤ length r + 2 = ltb-false _ _ q in
        vendor_sized n (suc (suc (length r))) r (ltb-false _ _ p) (omega arith)
    go false false false p q =
        let u : 2 ≤ n = ltb-false _ _ p in
        let v : n ≤ length r + 2 = ltb-false _ _ q in
        (omega arith, omega arith, omega arith)

-- passing over k octets
from_skip : (k p : ℕ) (l : List ℕ) → k ≤ length l → from k p l ≡ from 0 (p + k) (drop k l)
unfolding from
from_skip zero p l h = ap (λ (q : ℕ). from 0 q l) (sym (add-zero p))
from_skip (suc k) p [] h = absurd (omega arith)
from_skip (suc k) p (x ∷ l) h = from_skip k (suc p) l (omega arith) ∙ ap (λ (q : ℕ). from 0 q (drop k l)) (omega arith)

-- what stands at the front, and the walk on from there
pub from_found : (p : ℕ) (d : List ℕ) (f : Found) → found d ≡ f → from 0 p d ≡ onward p d (λ k. from 0 (p + suc k) (drop (suc k) d)) f
unfolding from found
from_found p [] f e = ap (onward p [] (λ k. end)) e
from_found p (x ∷ l) (refused k) e = ap (onward p (x ∷ l) (λ k. from k (suc p) l)) e
from_found p (x ∷ l) nothing e = ap (onward p (x ∷ l) (λ k. from k (suc p) l)) e
from_found p (x ∷ l) (attribute n h s) e =
    let z = subst (Sized (length (x ∷ l))) e (found_sized (x ∷ l)) in
    let r : suc p + (s - 1) ≡ p + suc (s - 1) = omega arith in
    ap (onward p (x ∷ l) (λ k. from k (suc p) l)) e
    ∙ ap (next (record { place = p; number = n; value = take (s - h) (drop h (x ∷ l)) }))
    (from_skip (s - 1) (suc p) l (omega arith) ∙ ap (λ (q : ℕ). from 0 q (drop (s - 1) l)) r)

-- an attribute at the front, and the walk on behind it
pub from_attribute :
    (p : ℕ) (d : List ℕ) (n h s : ℕ) → found d ≡ attribute n h s
    → from 0 p d ≡ next (record { place = p; number = n; value = take (s - h) (drop h d) }) (from 0 (p + s) (drop s d))
from_attribute p d n h s e =
    let z = subst (Sized (length d)) e (found_sized d) in
    let q : suc (s - 1) ≡ s = omega arith in
    from_found p d (attribute n h s) e ∙ rw q

-- The walk at a place of an area, by what stands there.
module _ (l : List ℕ) (at : ℕ) where
  pub sized_at : Sized (length (drop at l)) (found_at l at)
  unfolding found_at
  sized_at = found_sized (drop at l)

  pub walk_attribute :
      (n h s : ℕ) → found_at l at ≡ attribute n h s
      → walk_at l at ≡ next (record { place = at; number = n; value = take (s - h) (drop (at + h) l) }) (walk_at l (at + s))
  unfolding walk_at found_at
  walk_attribute n h s e = from_attribute at (drop at l) n h s e ∙ rw (drop-drop s at l, drop-drop h at l)

  pub walk_broken : (k : ℕ) → found_at l at ≡ refused k → walk_at l at ≡ broken k at
  unfolding walk_at found_at
  walk_broken k e = from_found at (drop at l) (refused k) e

  pub walk_ended : found_at l at ≡ nothing → walk_at l at ≡ end
  unfolding walk_at found_at
  walk_ended e = from_found at (drop at l) nothing e
