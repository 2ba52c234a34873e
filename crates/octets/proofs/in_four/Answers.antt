-- The octets are put two to an octet, then four, then all of them to one number. Assumes nothing.
use mathlib.Core.Path.{refl}
use Prim.Native.Nat.{ℕ, ◌+◌, ◌/◌}
use lib.Bits.{bit_and}
use Rattle.octets.proofs.Eights.{sum_fits, below_fits, in_four}
use Rattle.octets.proofs.in_four.Goals as goal

-- the sums on the way
abbrev once : ℕ → ℕ
once x = x + x / 16

abbrev twice : ℕ → ℕ
twice x = bit_and (once x) 0x00FF00FF00FF00FF + bit_and (once x) 0x00FF00FF00FF00FF / 256

pub overflow_add-y : goal.overflow_add-y
overflow_add-y c = sum_fits 16 c.args.x (below_fits c.args.x c.ranges.x.fits c.requires)

pub returns : goal.returns
returns c = in_four c.args.x c.ranges.x.fits c.requires _ _ refl refl
