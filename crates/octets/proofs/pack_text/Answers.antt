-- The octets passed hold the halves before them; the last eight, some of which are passed, end the pairs, and the rest is packed
-- behind them. Assumes nothing.
use mathlib.Core.Path.{◌≡◌}
use Prim.Native.Nat.{◌+◌, ◌*◌}
use native.Mathlib.Omega.{arith}
use Rattle.octets.proofs.Overs.{overlaid_none, overlaid_before, overlaid_begun, overlaid_on, overlaid_end}
use Rattle.octets.proofs.Halves.{halves_packed}
use Rattle.octets.proofs.pack_text.Goals as goal

pub pack_rest-requires : goal.pack_rest-requires
pack_rest-requires c = (overlaid_none _ _ (omega (arith, halves_packed c.args.text.now)), omega arith)

pub loop-i-init : goal.loop-i-init
loop-i-init c = overlaid_none _ _ (omega (arith, halves_packed c.args.text.now))

pub pack_eight-requires : goal.pack_eight-requires
pack_eight-requires c = (overlaid_begun _ _ _ _ c.loop-i.invariant, omega arith)

pub loop-i-preserved : goal.loop-i-preserved
loop-i-preserved c =
    let next : 8 * (c.loop-i.i + 1) ≡ 8 * c.loop-i.i + 8 = omega arith in
    rw next (overlaid_on _ _ _ _ _ _ c.loop-i.invariant c.pack_eight.ensures (omega arith))

pub pack_eight-requires-2 : goal.pack_eight-requires-2
pack_eight-requires-2 c = (overlaid_before _ _ _ _ _ c.loop-i.invariant (omega arith), omega arith)

pub pack_rest-requires-2 : goal.pack_rest-requires-2
pack_rest-requires-2 c = (overlaid_before _ _ _ _ _ c.pack_eight-2.ensures (omega arith), omega arith)

pub returns : goal.returns
returns c = overlaid_end _ _ _ _ _ (overlaid_on _ _ _ _ _ _ c.loop-i.invariant c.pack_eight-2.ensures (omega arith)) c.pack_rest-2.ensures
