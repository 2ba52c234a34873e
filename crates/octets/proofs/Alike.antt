-- Two lists compared by a loop from the left: as far as they agree, they are the same where what remains is the same. Assumes nothing.
use mathlib.Core.Path.{◌≡◌, refl, ap}
use mathlib.Core.Bool.{Bool, true, false}
use mathlib.Core.List.{List}
use Prim.Native.Nat.{ℕ}
use lib.Dec.{T}
use lib.ListN.{length}
use Rattle.meaning.specs.Octets.{same}
use Rattle.meaning.proofs.Tests.{same_one}

-- a test that cannot pass is false
untrue : (b : Bool) → (T b → ⊥) → false ≡ b
untrue true h = absurd (h tt)
untrue false h = refl

-- lists of different lengths are not the same
pub lengths_differ : (a b : List ℕ) → (length a ≡ length b → ⊥) → false ≡ same a b
lengths_differ a b h = untrue (same a b) (λ (t : T (same a b)). h (ap length (same_one a b t)))
