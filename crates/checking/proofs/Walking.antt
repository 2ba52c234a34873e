-- Rule 3's search: a walk from the area's start over the attributes before a place. Assumes nothing.
use mathlib.Core.Path.{◌≡◌, refl, sym, ap, ap₂, ◌∙◌}
use mathlib.Core.Bool.{Bool, true, false, cond, ◌&&◌, and-false}
use mathlib.Core.List.{List, [], ◌∷◌, ◌++◌}
use Prim.Native.Nat.{ℕ, ◌≤◌, ◌<◌}
use native.Mathlib.Omega.{arith}
use native.Mathlib.Nat.{lt_irrefl}
use borrow.Author.Tests.{eq-eqb, ne_eqb}
use Rattle.meaning.specs.Octets.{is_in}
use Rattle.meaning.specs.Breaches.{once_only}
use Rattle.area.specs.declared.Carried.{Carried}
use Rattle.area.specs.Answers.{carried_at}
use Rattle.checking.specs.Lists.{search_end}

-- ---- From place to place

-- From a place of the area l, the walk passes attributes that carry these numbers and comes to a place.
abbrev pub Reaches : (l : List ℕ) (from : ℕ) (numbers : List ℕ) (to : ℕ) → Type 0
Reaches l p [] q = p ≡ q
Reaches l p (n ∷ ns) q = ((carried_at l p).number ≡ n) × ((p < (carried_at l p).next) × Reaches l (carried_at l p).next ns q)

pub reaches_more : (l : List ℕ) (p : ℕ) (ns : List ℕ) (q : ℕ) (r : Carried) → r ≡ carried_at l q → q < r.next → Reaches l p ns q
    → Reaches l p (ns ++ r.number ∷ []) r.next
reaches_more l p [] q r says on w =
    let same : carried_at l p ≡ r = ap (carried_at l) w ∙ sym says in
    rw same (refl, (omega (arith, w), refl))
reaches_more l p (m ∷ ns) q r says on w = (w.0, (w.1.0, reaches_more l (carried_at l p).next ns q r says on w.1.1))

reaches_on : (l : List ℕ) (p : ℕ) (ns : List ℕ) (q : ℕ) → Reaches l p ns q → p ≤ q
reaches_on l p [] q r = omega arith
reaches_on l p (n ∷ ns) q r = omega (arith, r.1.0, reaches_on l (carried_at l p).next ns q r.1.1)

-- A walk that has come to its place passes nothing more.
reaches_past : {X : Type 0} (l : List ℕ) (p n : ℕ) (ns : List ℕ) (q : ℕ) → Reaches l p (n ∷ ns) q → q ≤ p → X
reaches_past l p n ns q r h =
    absurd (lt_irrefl p (omega (arith, r.1.0, reaches_on l (carried_at l p).next ns q r.1.1)))

-- The numbers that the walk passes are known by the places.
reaches_one : (l : List ℕ) (p : ℕ) (ns ms : List ℕ) (q : ℕ) → Reaches l p ns q → Reaches l p ms q → ns ≡ ms
reaches_one l p [] [] q r s = refl
reaches_one l p [] (m ∷ ms) q r s = reaches_past l p m ms q s (omega arith)
reaches_one l p (n ∷ ns) [] q r s = reaches_past l p n ns q r (omega arith)
reaches_one l p (n ∷ ns) (m ∷ ms) q r s =
    ap₂ ◌∷◌ (sym r.0 ∙ s.0) (reaches_one l (carried_at l p).next ns ms q r.1.1 s.1.1)

-- ---- The search

-- The attributes before the place carry the numbers `seen`; from `before` on and before `end` they carry the numbers `rest`, and rule 3
-- is broken exactly where n is one of these.
pub record Looking (l : List ℕ) (n place end before : ℕ) : Type 0 where
  pub seen : List ℕ
  pub reached : Reaches l 0 seen place
  pub rest : List ℕ
  pub ahead : Reaches l before rest end
  pub left : once_only n && is_in n seen ≡ is_in n rest

-- A number that was not noted does not break rule 3, so that it needs no search.
pub looking_unseen : (n : ℕ) (noted : Bool) (seen : List ℕ) → noted ≡ is_in n seen → noted ≡ false → false ≡ once_only n && is_in n seen
looking_unseen n noted seen says e = sym (ap (λ (x : Bool). once_only n && x) (sym says ∙ e) ∙ and-false (once_only n))

-- The search goes to the place, or ends at once where the number may stand again.
pub looking_start : (l : List ℕ) (n : ℕ) (seen : List ℕ) (place end : ℕ) → end ≡ search_end n place → Reaches l 0 seen place
    → Looking l n place end 0
unfolding search_end
looking_start l n seen place end e r = rw e (go (once_only n) refl)
  where
    go : (b : Bool) → once_only n ≡ b → Looking l n place (cond b place 0) 0
    go true o = record { seen = seen; reached = r; rest = seen; ahead = r; left = rw o }
    go false o = record { seen = seen; reached = r; rest = []; ahead = refl; left = rw o }

module _ (l : List ℕ) (n place end before : ℕ) (k : Looking l n place end before) where
  -- what the search finds is said of any numbers that the walk to the place passes
  answer : (b : Bool) (numbers : List ℕ) → Reaches l 0 numbers place → is_in n k.rest ≡ b → b ≡ once_only n && is_in n numbers
  answer b numbers r e =
      sym (ap (λ (x : List ℕ). once_only n && is_in n x) (reaches_one l 0 numbers k.seen place r k.reached) ∙ k.left ∙ e)

  -- nothing was found where the search ends
  pub looking_none : (numbers : List ℕ) → Reaches l 0 numbers place → end ≤ before → false ≡ once_only n && is_in n numbers
  looking_none numbers w h = answer false numbers w (go k.rest k.ahead)
    where
      go : (rest : List ℕ) → Reaches l before rest end → is_in n rest ≡ false
      go [] r = refl
      go (m ∷ rest) r = reaches_past l before m rest end r h

  -- What the area carries before the end.
  module _ (h : before < end) (r : Carried) (says : r ≡ carried_at l before) where
    -- the search gets on
    pub looking_on : before < r.next
    looking_on = go k.rest k.ahead
      where
        go : (rest : List ℕ) → Reaches l before rest end → before < r.next
        go [] e = absurd (lt_irrefl before (omega arith))
        go (m ∷ rest) e = rw says e.1.0

    -- it is the number
    pub looking_found : (numbers : List ℕ) → Reaches l 0 numbers place → r.number ≡ n → true ≡ once_only n && is_in n numbers
    looking_found numbers w same = answer true numbers w (go k.rest k.ahead)
      where
        go : (rest : List ℕ) → Reaches l before rest end → is_in n rest ≡ true
        go [] e = absurd (lt_irrefl before (omega arith))
        go (m ∷ rest) e = rw (eq-eqb n m (sym same ∙ ap (λ (x : Carried). x.number) says ∙ e.0))

    -- it is another
    pub looking_more : (r.number ≡ n → ⊥) → Looking l n place end r.next
    looking_more other = go k.rest k.ahead k.left
      where
        go : (rest : List ℕ) → Reaches l before rest end → once_only n && is_in n k.seen ≡ is_in n rest → Looking l n place end r.next
        go [] e f = absurd (lt_irrefl before (omega arith))
        go (m ∷ rest) e f =
            record {
              seen = k.seen;
              reached = k.reached;
              rest = rest;
              ahead = rw says e.1.1;
              left = f ∙ rw (ne_eqb n m (λ x. other (ap (λ (y : Carried). y.number) says ∙ e.0 ∙ sym x)));
            }
