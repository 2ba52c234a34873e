-- The walk over an area: the attributes it meets are carried, their octets and then the rest are the area, also where the walk ends in a
-- refusal, and octets that are joined to the area are walked from the rest on. So an area is well framed exactly when its walk has no
-- fault. Assumes nothing.
use mathlib.Core.Path.{◌≡◌, refl, sym, ap, ap₂, subst, ◌∙◌}
use mathlib.Core.Logic.{◌↔◌}
use mathlib.Core.List.{List, [], ◌∷◌, ◌++◌, append_assoc, append-nil, cons≢nil}
use Prim.Native.Nat.{ℕ, zero, suc, ◌+◌, ◌-◌, ◌≤◌}
use native.Mathlib.Omega.{arith}
use native.Mathlib.Nat.{add-zero}
use lib.ListN.{length, take, drop, length-append, take-append-drop}
use lib.Seq.{drop_at, length-take-le}
use Rattle.meaning.specs.Octets.{Octets}
use Rattle.meaning.specs.Framing.{head_length, Attribute, attribute_octets, area_of, carries, Carried, All, WellFramed, Found, attribute}
use Rattle.meaning.specs.Framing.{refused, nothing, found, Walk, end, broken, next, onward, from, walk_at, walk, attributes}
use Rattle.meaning.specs.Refusals.{none, refusal, fault}
use lib.Dec.{T}
use Rattle.meaning.proofs.Walks.{from_attribute}
use Rattle.meaning.proofs.Octets.{octets_take, octets_drop}
use Rattle.meaning.proofs.Framing.{Framed, FoundIn, found_in, carried_found, carried_value}

pub no_refusal : {X : Type 0} (n s : ℕ) → refusal n s ≡ none → X
no_refusal n s e = absurd (let z : ◌≡◌ {A = ℕ} 0 1 = cc in omega arith)

-- A carried attribute at the front is met, whatever follows, and the walk goes on behind it.
pub from_carried :
    (p n : ℕ) (v rest : List ℕ) → T (carries n v)
    → from 0 p (attribute_octets n v ++ rest)
    ≡ next (record { place = p; number = n; value = v }) (from 0 (p + length (attribute_octets n v)) rest)
from_carried p n v rest c =
    let d : List ℕ = attribute_octets n v in
    from_attribute p (d ++ rest) n (head_length n) (length d) (carried_found n v rest c)
    ∙ rw (carried_value n v rest, drop_at d rest (length d) refl)

-- attributes, and then a walk
abbrev pub before : List Attribute → Walk → Walk
before [] w = w
before (a ∷ l) w = next a (before l w)

-- What the walk w over the octets d from place p on has met, and where it stopped.
pub record Walked (p : ℕ) (d : List ℕ) (w : Walk) : Type 0 where
  pub carried : All Carried (attributes w)
  pub rest : List ℕ
  pub parts : area_of (attributes w) ++ rest ≡ d
  pub ended : fault w ≡ none → rest ≡ []
  pub stopped : (k q : ℕ) → fault w ≡ refusal k q → (q ≡ p + length (area_of (attributes w))) × (found rest ≡ refused k)
  pub joins : (m : List ℕ) → from 0 p (d ++ m) ≡ before (attributes w) (from 0 (p + length (area_of (attributes w))) (rest ++ m))

-- the end, or a fault, at the front
nothing_met : (p : ℕ) → Walked p [] end
unfolding attributes area_of fault
nothing_met p =
    record {
      carried = tt;
      rest = [];
      parts = refl;
      ended = λ e. refl;
      stopped = λ k q e. no_refusal k q (sym e);
      joins = λ m. ap (λ (q : ℕ). from 0 q m) (sym (add-zero p));
    }

fault_met : (p k : ℕ) (d : List ℕ) → found d ≡ refused k → Walked p d (broken k p)
unfolding attributes area_of fault
fault_met p k d f =
    record {
      carried = tt;
      rest = d;
      parts = refl;
      ended = λ e. no_refusal k p e;
      stopped = λ j q e. let ej : k ≡ j = cc in let eq : p ≡ q = cc in (sym eq ∙ sym (add-zero p), f ∙ ap refused ej);
      joins = λ m. ap (λ (q : ℕ). from 0 q (d ++ m)) (sym (add-zero p));
    }

-- an attribute was met at the front, and the walk from behind it on is known
met :
    (p n h s : ℕ) (d : List ℕ) (w : Walk) → Octets d → Framed d n h s → Walked (p + s) (drop s d) w
    → Walked p d (next (record { place = p; number = n; value = take (s - h) (drop h d) }) w)
unfolding attributes area_of fault
met p n h s d w o g r =
    let v : List ℕ = take (s - h) (drop h d) in
    let here : List ℕ = attribute_octets n v in
    let long : length here ≡ s = ap length g.same_octets ∙ length-take-le s d g.inside in
    let back : here ++ drop s d ≡ d = rw g.same_octets (take-append-drop s d) in
    let more : length (here ++ area_of (attributes w)) ≡ s + length (area_of (attributes w)) =
    omega (arith, length-append here (area_of (attributes w)), long) in
    let place : p + s + length (area_of (attributes w)) ≡ p + length (here ++ area_of (attributes w)) = omega arith in
    record {
      carried = (record { low = g.low; carried = g.carried; octets = octets_take (s - h) (drop h d) (octets_drop h d o) }, r.carried);
      rest = r.rest;
      parts = append_assoc here (area_of (attributes w)) r.rest ∙ ap (λ (x : List ℕ). here ++ x) r.parts ∙ back;
      ended = r.ended;
      stopped = λ k q e. ((r.stopped k q e).0 ∙ place, (r.stopped k q e).1);
      joins =
          λ m. ap (λ (x : List ℕ). from 0 p (x ++ m)) (sym back)
          ∙ ap (from 0 p) (append_assoc here (drop s d) m)
          ∙ from_carried p n v (drop s d ++ m) g.carried
          ∙ ap (next (record { place = p; number = n; value = v }))
          (ap (λ (k : ℕ). from 0 (p + k) (drop s d ++ m)) long ∙ r.joins m
          ∙ ap (λ (k : ℕ). before (attributes w) (from 0 k (r.rest ++ m))) place);
    }

-- The walk over octets from a place on, the first k of them passed over.
pub walked : (k p : ℕ) (l : List ℕ) → Octets l → k ≤ length l → Walked (p + k) (drop k l) (from k p l)
unfolding from
walked zero p [] o h = rw (add-zero p) (nothing_met p)
walked (suc k) p [] o h = absurd (omega arith)
walked (suc k) p (x ∷ l) o h =
    let e : suc p + k ≡ p + suc k = omega arith in
    rw e at (walked k (suc p) l o.1 (omega arith))
walked zero p (x ∷ l) o h = rw (add-zero p) (go (found (x ∷ l)) (found_in (x ∷ l) o) refl (λ k h. walked k (suc p) l o.1 h))
  where
    go :
        (f : Found) → FoundIn (x ∷ l) f → found (x ∷ l) ≡ f
        → ((k : ℕ) → k ≤ length l → Walked (suc p + k) (drop k l) (from k (suc p) l))
        → Walked p (x ∷ l) (onward p (x ∷ l) (λ k. from k (suc p) l) f)
    go (attribute n h s) g e ih =
        let one : suc (s - 1) ≡ s = omega (arith, g.headed, g.within) in
        let r = ih (s - 1) (omega (arith, g.inside, g.headed, g.within)) in
        let place : suc p + (s - 1) ≡ p + s = omega arith in
        met p n h s (x ∷ l) (from (s - 1) (suc p) l) o g
        (subst (λ (i : ℕ). Walked (p + s) (drop i (x ∷ l)) (from (s - 1) (suc p) l)) one (rw place at r))
    go (refused k) g e ih = fault_met p k (x ∷ l) e
    go nothing g e ih = absurd (cons≢nil g)

-- ---- A whole area

pub walked_area : (area : List ℕ) → Octets area → Walked 0 area (walk area)
unfolding walk walk_at
walked_area area o = walked 0 0 area o (omega arith)

-- Where the walk has no fault, the attributes give the area back.
pub area_back : (area : List ℕ) → Octets area → fault (walk area) ≡ none → area_of (attributes (walk area)) ≡ area
area_back area o e =
    let w = walked_area area o in
    sym (append-nil (area_of (attributes (walk area)))) ∙ ap (λ (x : List ℕ). area_of (attributes (walk area)) ++ x) (sym (w.ended e)) ∙ w.parts

-- The walk over joined octets: where the first are well framed, their attributes, and then the walk over the others from there on.
pub walk_joined :
    (area more : List ℕ) → Octets area → fault (walk area) ≡ none
    → walk (area ++ more) ≡ before (attributes (walk area)) (from 0 (length area) more)
unfolding walk walk_at
walk_joined area more o e =
    let w = walked_area area o in
    let place : 0 + length (area_of (attributes (walk area))) ≡ length area = omega (arith, ap length (area_back area o e)) in
    w.joins more ∙ ap₂ (λ (q : ℕ) (x : List ℕ). before (attributes (walk area)) (from 0 q (x ++ more))) place (w.ended e)

-- The walk over the octets of carried attributes meets no fault.
pub no_fault : (p : ℕ) (l : List Attribute) → All Carried l → fault (from 0 p (area_of l)) ≡ none
unfolding from area_of fault
no_fault p [] c = refl
no_fault p (a ∷ l) c =
    ap fault (from_carried p a.number a.value (area_of l) c.0.carried)
    ∙ no_fault (p + length (attribute_octets a.number a.value)) l c.1

-- An area is well framed exactly when its walk has no fault.
pub framed_exactly : (area : List ℕ) → Octets area → (fault (walk area) ≡ none) ↔ WellFramed area
unfolding walk walk_at
framed_exactly area o = (there, back)
  where
    there : fault (walk area) ≡ none → WellFramed area
    there e = record { made = attributes (walk area); each = (walked_area area o).carried; whole = area_back area o e }

    back : WellFramed area → fault (walk area) ≡ none
    back f = ap (λ (x : List ℕ). fault (walk x)) (sym f.whole) ∙ no_fault 0 f.made f.each
