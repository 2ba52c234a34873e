-- For a caller of `step_at`: what the walk over the area meets at the place, by the answer. Assumes nothing.
use mathlib.Core.Path.{◌≡◌, refl, sym, ap, subst, ◌∙◌}
use mathlib.Core.List.{List}
use Prim.Native.Nat.{ℕ, ◌+◌, ◌-◌, ◌≤◌}
use native.Mathlib.Omega.{arith}
use lib.ListN.{length, take, drop, length-drop}
use lib.Seq.{drop-drop}
use Rattle.meaning.specs.Octets.{Octets}
use Rattle.meaning.specs.Framing.{Attribute, Found, attribute, refused, nothing, found_at, end, broken, next, walk_at, Carried}
use Rattle.meaning.proofs.Octets.{octets_take, octets_drop}
use Rattle.meaning.proofs.Walks.{Sized, sized_at, walk_attribute, walk_broken, walk_ended}
use Rattle.meaning.proofs.Framing.{Framed, FoundIn, found_in}
use Rattle.area.specs.Answers.{Step, step_of}
use Rattle.area.specs.declared.Refusal.{Refusal}
use Rattle.area.specs.declared.Part.{Part}
use Rattle.std.specs.Prelude.{Option, None, Some, Ok, Err}
use Rattle.area.specs.declared.Carried as area

-- an attribute of the area l, its value given as a part
abbrev pub attribute_in : (l : List ℕ) (place number : ℕ) → Part → Attribute
attribute_in l place number value = record { place = place; number = number; value = take value.len (drop value.start l) }

-- At a place of the area l stands an attribute with its number and its value, and the walk goes on at the place behind it.
pub record AttributeAt (l : List ℕ) (place number : ℕ) (value : Part) (behind : ℕ) : Type 0 where
  pub walks : walk_at l place ≡ next (attribute_in l place number value) (walk_at l behind)
  pub onwards : place + 2 ≤ behind
  pub inside : behind ≤ length l
  pub starts : place + 2 ≤ value.start
  pub ends : value.start + value.len ≡ behind
  pub carried : Octets l → Carried (attribute_in l place number value)

module _ (l : List ℕ) (place : ℕ) where
  -- what is known of an attribute that is found at a place
  framed_at : (n h s : ℕ) → found_at l place ≡ attribute n h s → Octets l → Framed (drop place l) n h s
  unfolding found_at
  framed_at n h s p o = subst (FoundIn (drop place l)) p (found_in (drop place l) (octets_drop place l o))

  -- The answer r of `step_at`, known by what it ensures and by the arm of a match.
  module _ (r : Step) (says : r ≡ step_of place (found_at l place)) where
    -- an attribute
    pub step_attribute : (x : Option area.Carried) → r ≡ Ok x → (a : area.Carried) → x ≡ Some a → AttributeAt l place a.number a.value a.next
    step_attribute x was a q = go (found_at l place) refl (sym (was ∙ ap Ok q) ∙ says)
      where
        go :
            (f : Found) → found_at l place ≡ f → Ok (Some a) ≡ step_of place f
            → AttributeAt l place a.number a.value a.next
        go (attribute n h s) p e =
            let z = subst (Sized (length (drop place l))) p (sized_at l place) in
            let ea : record { number = n; value = record { start = place + h; len = s - h }; next = place + s } ≡ a = cc in
            let en : n ≡ a.number = ap (λ (x : area.Carried). x.number) ea in
            let es : place + h ≡ a.value.start = ap (λ (x : area.Carried). x.value.start) ea in
            let el : s - h ≡ a.value.len = ap (λ (x : area.Carried). x.value.len) ea in
            let eb : place + s ≡ a.next = ap (λ (x : area.Carried). x.next) ea in
            record {
              walks = walk_attribute l place n h s p ∙ rw (en, es, el, eb);
              onwards = omega arith;
              inside = omega (arith, length-drop place l);
              starts = omega arith;
              ends = omega arith;
              carried =
                  λ o.
                  let f = framed_at n h s p o in
                  record {
                    low = rw en at f.low;
                    carried = rw (drop-drop h place l, en, es, el) at f.carried;
                    octets = octets_take a.value.len (drop a.value.start l) (octets_drop a.value.start l o);
                  };
            }
        go (refused k) p e = absurd (let z : ◌≡◌ {A = ℕ} 0 1 = cc in omega arith)
        go nothing p e = absurd (let z : ◌≡◌ {A = ℕ} 0 1 = cc in omega arith)

    -- a refusal
    pub step_refused : (refusal : Refusal) → r ≡ Err refusal → walk_at l place ≡ broken refusal.number refusal.second
    step_refused refusal q = go (found_at l place) refl (sym q ∙ says)
      where
        go :
            (f : Found) → found_at l place ≡ f → Err refusal ≡ step_of place f
            → walk_at l place ≡ broken refusal.number refusal.second
        go (attribute n h s) p e = absurd (let z : ◌≡◌ {A = ℕ} 0 1 = cc in omega arith)
        go (refused k) p e =
            let en : k ≡ refusal.number = cc in
            let es : place ≡ refusal.second = cc in
            walk_broken l place k p ∙ rw (en, es)
        go nothing p e = absurd (let z : ◌≡◌ {A = ℕ} 0 1 = cc in omega arith)

    -- the end
    pub step_ended : (x : Option area.Carried) → r ≡ Ok x → x ≡ None → walk_at l place ≡ end
    step_ended x was q = go (found_at l place) refl (sym (was ∙ ap Ok q) ∙ says)
      where
        go : (f : Found) → found_at l place ≡ f → Ok None ≡ step_of place f → walk_at l place ≡ end
        go (attribute n h s) p e = absurd (let z : ◌≡◌ {A = ℕ} 0 1 = cc in omega arith)
        go (refused k) p e = absurd (let z : ◌≡◌ {A = ℕ} 0 1 = cc in omega arith)
        go nothing p e = walk_ended l place p
