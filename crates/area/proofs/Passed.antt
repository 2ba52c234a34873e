-- What a walk from the left has passed: so many attributes, up to a place. Assumes nothing.
use mathlib.Core.Path.{◌≡◌, refl, ap, ◌∙◌}
use mathlib.Core.List.{List}
use Prim.Native.Nat.{ℕ, ◌+◌, ◌≤◌}
use native.Mathlib.Omega.{arith}
use lib.ListN.{length}
use Rattle.meaning.specs.Framing.{Walk, walk_at, walk, attributes}
use Rattle.meaning.specs.Refusals.{fault}
use Rattle.area.specs.declared.Part.{Part}
use Rattle.area.proofs.Steps.{AttributeAt}

-- So many attributes of the area l stand before a place: the fault, if any, and the other attributes are found from there on.
pub record Passed (l : List ℕ) (count place : ℕ) : Type 0 where
  pub inside : place ≤ length l
  pub few : count ≤ place
  pub same_fault : fault (walk l) ≡ fault (walk_at l place)
  pub counted : length (attributes (walk l)) ≡ count + length (attributes (walk_at l place))

-- none at the start
pub passed_none : (l : List ℕ) → Passed l 0 0
unfolding walk
passed_none l = record { inside = omega arith; few = omega arith; same_fault = refl; counted = omega arith }

module _ (l : List ℕ) (count place : ℕ) (passed : Passed l count place) where
  -- one attribute more
  pub passed_more : (number : ℕ) (value : Part) (behind : ℕ) → AttributeAt l place number value behind → Passed l (count + 1) behind
  unfolding fault attributes
  passed_more number value behind s =
      record {
        inside = s.inside;
        few = omega arith;
        same_fault = passed.same_fault ∙ ap fault s.walks;
        counted = omega (arith, ap (λ (w : Walk). length (attributes w)) s.walks);
      }
