-- The octets passed are laid over the start of the buffer; the last N, some of which are passed, end them. Assumes nothing.
use mathlib.Core.Path.{◌≡◌, refl}
use Prim.Native.Nat.{◌+◌, ◌*◌, ◌-◌, ◌≤◌}
use native.Mathlib.Omega.{arith}
use lib.ListN.{length}
use Rattle.std.proofs.lemmas.Grind.{common_steps}
use Rattle.octets.proofs.Overs.{overlaid_none, overlaid_part, overlaid_before, overlaid_on, overlaid_all}
use Rattle.octets.proofs.copy_by.Goals as goal

pub loop-i-init : goal.loop-i-init
loop-i-init g c =
    let none : g.row.N * 0 ≡ 0 = omega arith in
    rw none (overlaid_none _ _ c.requires.room)

pub loop-i-preserved : goal.loop-i-preserved
loop-i-preserved g c =
    let inside : g.row.N * c.loop-i.i + g.row.N ≤ length c.args.src.now = grind (arith, common_steps) in
    overlaid_part _ _ _ _ _ _ g.row.N _ c.loop-i.invariant (omega arith) (omega arith) c.array_at.ensures c.lay_at.ensures

pub returns : goal.returns
returns g c =
    let passed : length c.args.src.now - g.row.N ≤ g.row.N * c.loop-i.i = grind (arith, common_steps) in
    let rest = overlaid_part _ _ _ _ _ _ g.row.N _ (overlaid_before _ _ _ _ _ c.loop-i.invariant passed) refl (omega arith) c.array_at-2.ensures c.lay_at-2.ensures in
    overlaid_all _ _ _ _ (overlaid_on _ _ _ _ _ _ c.loop-i.invariant rest (omega arith)) (omega arith)
