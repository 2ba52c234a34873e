-- The octets passed hold the halves before them, two to an octet; an odd last half comes behind them. Assumes nothing.
use mathlib.Core.Path.{◌≡◌}
use Prim.Native.Nat.{◌/◌}
use native.Mathlib.Omega.{arith}
use lib.ListN.{length}
use Rattle.octets.proofs.Overs.{overlaid_more, overlaid_all}
use Rattle.octets.proofs.Halves.{halves_packed, halves_one}
use Rattle.octets.proofs.pack_rest.Goals as goal

pub bounds-buf-i : goal.bounds-buf-i
bounds-buf-i c = omega (arith, halves_packed c.args.text.now, c.loop-i.invariant.room, c.loop-i.invariant.kept)

pub loop-i-preserved : goal.loop-i-preserved
loop-i-preserved c = overlaid_more _ _ _ _ _ c.loop-i.invariant (omega (arith, halves_packed c.args.text.now)) c.two_halves.ensures

pub bounds-buf-pairs : goal.bounds-buf-pairs
bounds-buf-pairs c = omega (arith, halves_packed c.args.text.now, c.loop-i.invariant.room, c.loop-i.invariant.kept)

pub returns-then-pairs-text : goal.returns-then-pairs-text
returns-then-pairs-text c =
    let text = c.args.text.now in
    let end : c.loop-i.i ≡ length text / 2 = omega arith in
    overlaid_all _ _ _ _ (overlaid_more _ _ _ _ _ (rw end at c.loop-i.invariant) (omega (arith, halves_packed text)) (halves_one text (length text / 2) (omega arith) (omega arith) _ _ c.half_of.ensures c.pair.ensures)) (omega (arith, halves_packed text))

pub returns-else-pairs-text : goal.returns-else-pairs-text
returns-else-pairs-text c = overlaid_all _ _ _ _ c.loop-i.invariant (omega (arith, halves_packed c.args.text.now))
