-- The first octets from the place on. Assumes nothing.
use mathlib.Core.Path.{ap, ◌∙◌}
use Prim.Native.Nat.{◌-◌}
use native.Mathlib.Omega.{arith}
use lib.ListN.{length, take, drop, length-drop}
use lib.Seq.{take_all}
use Rattle.octets.specs.Parts.{part_of}
use Rattle.octets.proofs.array_at.Goals as goal

pub returns : goal.returns
unfolding part_of
returns g c =
    let a = c.args in
    let s = a.s.now in
    (rw c.unwrap.ensures at c.first_chunk.ensures.cases).same
    ∙ ap (take g.row.N) (take_all (length s - a.at) (drop a.at s) (omega (arith, length-drop a.at s)))
