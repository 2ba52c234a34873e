-- The walk over the items: each finds its first, and none is refused. Assumes nothing.
use Rattle.std.proofs.Common.{◌≡◌, ◌∙◌, ◌+◌, ◌-◌, arith}
use Rattle.octets.proofs.Parts.{slice_octets}
use Rattle.ledger.proofs.Places.{looking_none, no_head, looking_more, looking_all}
use Rattle.ledger.proofs.firsts_in.Goals as goal

pub loop-item-init : goal.loop-item-init
loop-item-init c =
    let all : c.u16_at-count.result - 0 ≡ c.u16_at-count.result = omega arith in
    looking_none c.args.sheet.now _ (all ∙ c.u16_at-count.ensures) c.requires _ c.default-firsts.ensures

pub unreachable-requires : goal.unreachable-requires
unreachable-requires c =
    no_head c.args.sheet.now _ _ _ c.loop-item.invariant (omega (arith, c.loop-item-test.true)) (slice_octets _ c.type_inv.sheet) _ c.head_at.ensures _ c.in_default.is

pub loop-item-preserved : goal.loop-item-preserved
loop-item-preserved c =
    let one : c.u16_at-count.result - c.loop-item._item - 1 ≡ c.u16_at-count.result - (c.loop-item._item + 1) = omega arith in
    rw one at (looking_more c.args.sheet.now _ _ _ c.loop-item.invariant (omega (arith, c.loop-item-test.true)) (slice_octets _ c.type_inv.sheet) _ c.head_at.ensures _
    c.in-Ok.is _ c.with-firsts.ensures)

pub returns : goal.returns
returns c = looking_all c.args.sheet.now _ _ (omega (arith, c.loop-item-test.false)) _ c.loop-item.invariant
