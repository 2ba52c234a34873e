-- The walk over the items of a sheet from a place on: one unfolding for each thing that can stand there. Assumes nothing.
use mathlib.Core.Path.{◌≡◌, ap, ◌∙◌}
use mathlib.Core.List.{List}
use Prim.Native.Nat.{ℕ, suc, ◌+◌, ◌-◌, ◌<◌, ◌≤◌}
use native.Mathlib.Omega.{arith}
use lib.ListN.{length, drop, drop_of_length-le}
use lib.Seq.{drop-drop, drop-cons}
use Rattle.meaning.specs.Versions.{current}
use Rattle.meaning.specs.Octets.{number_of}
use Rattle.meaning.specs.Framing.{Walk, end, broken, next}
use Rattle.meaning.specs.Sheet.{holds, refused, Entered, on_item, items, items_in}
use Rattle.octets.specs.Parts.{part_of}
use Rattle.item.specs.Answers.{entered_at}

-- so many items from a place on
unfoldable pub items_at : (sheet : List ℕ) (left place : ℕ) → Walk
items_at l left p = items current left p (drop p l)

pub items_start : (l : List ℕ) (left : ℕ) → left ≡ number_of (part_of l 7 2) → items_in l ≡ items_at l left 9
unfolding items_in items_at part_of
items_start l left e = rw e

-- on from what stands at the place
on_from : (l : List ℕ) (p c : ℕ) (e : Entered) → entered_at l p ≡ e → items_at l (suc c) p ≡ on_item p (λ size. items_at l c (p + size)) e
unfolding items_at items entered_at
on_from l p c (holds n v size) h =
    ap (on_item p (λ k. items current c (p + k) (drop k (drop p l)))) h ∙ rw (drop-drop size p l)
on_from l p c (refused k) h = ap (on_item p (λ k. items current c (p + k) (drop k (drop p l)))) h

-- the number of a loop's turns left, and one less
one_less : (left : ℕ) → 0 < left → left ≡ suc (left - 1)
one_less left h = omega arith

module _ (l : List ℕ) (left p : ℕ) where
  pub items_enter : (n : ℕ) (v : List ℕ) (size : ℕ) → 0 < left → entered_at l p ≡ holds n v size
      → items_at l left p ≡ next (record { place = p; number = n; value = v }) (items_at l (left - 1) (p + size))
  items_enter n v size h e = ap (λ (k : ℕ). items_at l k p) (one_less left h) ∙ on_from l p (left - 1) (holds n v size) e

  pub items_refuse : (k : ℕ) → 0 < left → entered_at l p ≡ refused k → items_at l left p ≡ broken k p
  items_refuse k h e = ap (λ (k : ℕ). items_at l k p) (one_less left h) ∙ on_from l p (left - 1) (refused k) e

  pub items_end : left ≡ 0 → length l ≤ p → items_at l left p ≡ end
  unfolding items_at items
  items_end e h = rw (e, drop_of_length-le l {i = p} h)

  pub items_remain : left ≡ 0 → p < length l → items_at l left p ≡ broken 22 p
  unfolding items_at items
  items_remain e h = rw (e, drop-cons l p 0 h)
