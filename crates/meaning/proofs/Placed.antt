-- The attributes of an area's walk stand at rising places below its length, so its list has exactly their breaches. Assumes nothing.
use mathlib.Core.List.{List, [], ◌∷◌}
use Prim.Native.Nat.{ℕ, zero, suc, ◌+◌, ◌≤◌}
use native.Mathlib.Omega.{arith}
use native.Mathlib.Nat.{zero-add}
use mathlib.Core.Path.{◌≡◌}
use lib.ListN.{length}
use Rattle.meaning.specs.Octets.{Octets}
use Rattle.meaning.specs.Jobs.{Context}
use Rattle.meaning.specs.Framing.{Attribute, Found, attribute, refused, nothing, found, Walk, onward, from, walk_at, walk, attributes}
use Rattle.meaning.specs.Breaches.{Lists, Breach}
use Rattle.meaning.specs.Listing.{list_of}
use Rattle.meaning.proofs.Framing.{FoundIn, found_in}
use Rattle.meaning.proofs.Breaches.{Placed, breaches_lists}

placed_lower : (p q size : ℕ) (l : List Attribute) → p ≤ q → Placed q l size → Placed p l size
placed_lower p q size [] h w = omega arith
placed_lower p q size (a ∷ l) h w = (omega arith, w.1, w.2)

onward_placed : (p : ℕ) (l : List ℕ) (rest : ℕ → Walk) (to : ℕ) → p ≤ to → ((k : ℕ) → Placed (suc p) (attributes (rest k)) to)
    → (f : Found) → FoundIn l f → Placed p (attributes (onward p l rest f)) to
unfolding attributes
onward_placed p l rest to h placed (attribute n head size) g = (omega arith, g.low, placed _)
onward_placed p l rest to h placed (refused k) g = h
onward_placed p l rest to h placed nothing g = h

from_placed : (k p : ℕ) (l : List ℕ) (to : ℕ) → Octets l → p + length l ≡ to → Placed p (attributes (from k p l)) to
unfolding from attributes
from_placed k p [] to o e = omega arith
from_placed (suc k) p (x ∷ l) to o e =
    placed_lower p (suc p) to (attributes (from k (suc p) l)) (omega arith) (from_placed k (suc p) l to o.1 (omega arith))
from_placed zero p (x ∷ l) to o e =
    onward_placed p (x ∷ l) (λ k. from k (suc p) l) to (omega arith) (λ k. from_placed k (suc p) l to o.1 (omega arith)) (found (x ∷ l))
    (found_in (x ∷ l) o)

pub walk_placed : (area : List ℕ) → Octets area → Placed 0 (attributes (walk area)) (length area)
unfolding walk walk_at
walk_placed area o = from_placed 0 0 area (length area) o (zero-add (length area))

pub list_lists : (c : Context) (area : List ℕ) → Octets area
    → Lists (list_of c area) (Breach c (length area) (attributes (walk area)))
unfolding list_of
list_lists c area o = breaches_lists c (length area) (attributes (walk area)) (walk_placed area o)
