-- For a caller of `carried_at`: wherever `step_at` finds an attribute, it tells that one. Assumes nothing.
use mathlib.Core.Path.{◌≡◌, refl, sym, ap, subst, ◌∙◌}
use mathlib.Core.Bool.{Bool, true, false, cond, ◌&&◌}
use mathlib.Core.List.{List, [], ◌∷◌}
use Prim.Native.Nat.{ℕ, ◌+◌, ◌-◌, ◌<◌, ◌≤◌}
use native.Mathlib.Omega.{arith}
use lib.Dec.{eqb, ltb}
use lib.ListN.{length, take, drop, get_or}
use lib.Seq.{drop-drop, get_or-drop}
use borrow.Author.Tests.{lt-ltb, le-ltb, eq-eqb, ne_eqb, eqb-true}
use Rattle.meaning.specs.Octets.{Octets, number_of}
use Rattle.meaning.specs.Framing.{head_length, gpp, is_plain, vendor3gpp, Found, attribute, refused, nothing, one_sub, vendor_found, found}
use Rattle.meaning.specs.Framing.{found_at}
use Rattle.meaning.proofs.Octets.{octets_drop}
use Rattle.octets.specs.Parts.{part_of}
use Rattle.area.specs.Answers.{Step, step_of, number_at, carried_as, carried_at}
use Rattle.std.specs.Prelude.{Option, Some, Ok}
use Rattle.area.specs.declared.Carried.{Carried}
use Rattle.area.proofs.Steps.{AttributeAt, step_attribute}

-- ---- One law for each answer

pub plain_head_length : (n : ℕ) → n < 256 → 2 ≡ head_length n
unfolding head_length
plain_head_length n h = rw (lt-ltb n 256 h)

pub gpp_head_length : (n : ℕ) → 256 ≤ n → 8 ≡ head_length n
unfolding head_length
gpp_head_length n h = rw (le-ltb n 256 h)

module _ (l : List ℕ) (place : ℕ) where
  pub number_plain : (get_or l place 0 ≡ 26 → ⊥) → get_or l place 0 ≡ number_at l place
  unfolding number_at
  number_plain t = rw (ne_eqb (get_or l place 0) 26 t)

  pub number_other : get_or l place 0 ≡ 26 → (number_of (part_of l (place + 2) 4) ≡ vendor3gpp → ⊥) → get_or l place 0 ≡ number_at l place
  unfolding number_at
  number_other t v = rw (eq-eqb (get_or l place 0) 26 t, ne_eqb (number_of (part_of l (place + 2) 4)) vendor3gpp v)

  pub number_gpp : get_or l place 0 ≡ 26 → number_of (part_of l (place + 2) 4) ≡ vendor3gpp → gpp (get_or l (place + 6) 0) ≡ number_at l place
  unfolding number_at
  number_gpp t v = rw (eq-eqb (get_or l place 0) 26 t, eq-eqb (number_of (part_of l (place + 2) 4)) vendor3gpp v)

  pub carried_nothing :
      length l ≤ place → record { number = 0; value = record { start = place; len = 0 }; next = place } ≡ carried_at l place
  unfolding carried_at
  carried_nothing h = rw (le-ltb place (length l) h)

  pub carried_here :
      place < length l → (number head size : ℕ) (rest : ℕ) → number ≡ number_at l place → head ≡ head_length number
      → size ≡ get_or l (place + 1) 0 → rest ≡ size - head
      → record { number = number; value = record { start = place + head; len = rest }; next = place + size } ≡ carried_at l place
  unfolding carried_at carried_as
  carried_here h number head size rest n e s r = rw (lt-ltb place (length l) h, r, s, e, n)

-- ---- What it tells of a well framed area

-- the same of octets that start there
abbrev front_number : List ℕ → ℕ
front_number d = cond (eqb (get_or d 0 0) 26 && eqb (number_of (take 4 (drop 2 d))) vendor3gpp) (gpp (get_or d 6 0)) (get_or d 0 0)

record Fronted (d : List ℕ) (n h s : ℕ) : Type 0 where
  numbered : n ≡ front_number d
  headed : h ≡ cond (is_plain n) 2 8
  sized : s ≡ get_or d 1 0

abbrev Front : List ℕ → Found → Type 0
Front d (attribute n h s) = Fronted d n h s
Front d (refused k) = Unit {0}
Front d nothing = Unit {0}

front_vendor : (n : ℕ) (r : List ℕ) → Front (26 ∷ n ∷ r) (vendor_found n r)
unfolding vendor_found
front_vendor n r = go (ltb n 7) (eqb (number_of (take 4 r)) vendor3gpp) (one_sub n (get_or r 5 0)) refl
  where
    go :
        (a b x : Bool) → eqb (number_of (take 4 r)) vendor3gpp ≡ b
        → Front (26 ∷ n ∷ r) (cond a (refused 7) (cond b (cond x (attribute (gpp (get_or r 4 0)) 8 n) (refused 8)) (attribute 26 2 n)))
    go true b x e = tt
    go false false x e = record { numbered = rw e; headed = refl; sized = refl }
    go false true false e = tt
    go false true true e =
        record {
          numbered = rw e;
          headed = rw (le-ltb (gpp (get_or r 4 0)) 256 (omega arith));
          sized = refl;
        }

front : (d : List ℕ) → Octets d → Front d (found d)
unfolding found
front [] o = tt
front (t ∷ []) o = tt
front (t ∷ n ∷ r) o = go (ltb n 2) (ltb (length r + 2) n) (eqb t 26) refl
  where
    go :
        (a b x : Bool) → eqb t 26 ≡ x
        → Front (t ∷ n ∷ r) (cond a (refused 5) (cond b (refused 6) (cond x (vendor_found n r) (attribute t 2 n))))
    go true b x e = tt
    go false true x e = tt
    go false false true e = rw (eqb-true t 26 e) (front_vendor n r)
    go false false false e = record { numbered = rw e; headed = rw (lt-ltb t 256 o.0); sized = refl }

module _ (l : List ℕ) (place : ℕ) (o : Octets l) where
  number_front : front_number (drop place l) ≡ number_at l place
  unfolding number_at part_of
  number_front =
      rw (get_or-drop place l 0 0, get_or-drop place l 6 0, drop-drop 2 place l)
      (ap (λ (p : ℕ). cond (eqb (get_or l p 0) 26 && eqb (number_of (take 4 (drop (place + 2) l))) vendor3gpp) (gpp (get_or l (place + 6) 0)) (get_or l p 0)) (omega arith))

  -- An attribute that is found at a place is the one that is told.
  found_carried :
      place < length l → (n h s : ℕ) → found_at l place ≡ attribute n h s
      → carried_at l place ≡ record { number = n; value = record { start = place + h; len = s - h }; next = place + s }
  unfolding found_at head_length
  found_carried inside n h s e =
      let f : Fronted (drop place l) n h s = subst (Front (drop place l)) e (front (drop place l) (octets_drop place l o)) in
      sym (carried_here l place inside n h s (s - h) (f.numbered ∙ number_front) f.headed (f.sized ∙ get_or-drop place l 1 0) refl)

  -- An attribute that is the answer of `step_at` is the one that is told.
  pub step_carried :
      (r : Step) → r ≡ step_of place (found_at l place) → (x : Option Carried) → r ≡ Ok x → (a : Carried) → x ≡ Some a
      → a ≡ carried_at l place
  step_carried r says x was a q = go (found_at l place) refl (sym (was ∙ ap Ok q) ∙ says)
    where
      stands : AttributeAt l place a.number a.value a.next
      stands = step_attribute l place r says x was a q

      go : (f : Found) → found_at l place ≡ f → Ok (Some a) ≡ step_of place f → a ≡ carried_at l place
      go (attribute n h s) p e =
          let here = found_carried (omega (arith, stands.onwards, stands.inside)) n h s p in
          let ea : a ≡ record { number = n; value = record { start = place + h; len = s - h }; next = place + s } = cc in
          ea ∙ sym here
      go (refused k) p e = absurd (let z : ◌≡◌ {A = ℕ} 0 1 = cc in omega arith)
      go nothing p e = absurd (let z : ◌≡◌ {A = ℕ} 0 1 = cc in omega arith)
