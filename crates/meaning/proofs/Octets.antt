-- Octets of a list, of its parts and of lists joined. Assumes nothing.
use mathlib.Core.List.{List, [], ◌∷◌, ◌++◌}
use Prim.Native.Nat.{ℕ, zero, suc, ◌<◌}
use native.Mathlib.Omega.{arith}
use lib.ListN.{take, drop, get_or}
use Rattle.meaning.specs.Octets.{Octets}

pub octet_at : (l : List ℕ) (i : ℕ) → Octets l → get_or l i 0 < 256
octet_at [] i o = omega arith
octet_at (x ∷ l) zero o = o.0
octet_at (x ∷ l) (suc i) o = octet_at l i o.1

pub octets_take : (k : ℕ) (l : List ℕ) → Octets l → Octets (take k l)
octets_take zero l o = tt
octets_take (suc k) [] o = tt
octets_take (suc k) (x ∷ l) o = (o.0, octets_take k l o.1)

pub octets_drop : (k : ℕ) (l : List ℕ) → Octets l → Octets (drop k l)
octets_drop zero l o = o
octets_drop (suc k) [] o = tt
octets_drop (suc k) (x ∷ l) o = octets_drop k l o.1

pub octets_append : (l m : List ℕ) → Octets l → Octets m → Octets (l ++ m)
octets_append [] m o q = q
octets_append (x ∷ l) m o q = (o.0, octets_append l m o.1 q)
