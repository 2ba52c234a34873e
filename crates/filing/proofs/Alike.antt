-- A list against one that begins with two given octets. Assumes nothing.
use mathlib.Core.Path.{◌≡◌}
use mathlib.Core.Bool.{false}
use mathlib.Core.List.{List, ◌∷◌}
use Prim.Native.Nat.{ℕ, ◌<◌}
use native.Mathlib.Omega.{arith}
use lib.ListN.{length}
use Rattle.meaning.specs.Octets.{same}
use Rattle.octets.proofs.Alike.{lengths_differ}

pub too_short : (t m : List ℕ) (x y : ℕ) → length t < 2 → false ≡ same t (x ∷ y ∷ m)
too_short t m x y h = lengths_differ t (x ∷ y ∷ m) (λ (e : length t ≡ length (x ∷ y ∷ m)). omega arith)
