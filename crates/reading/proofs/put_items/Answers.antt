-- `reading::put_items` meets its contract: its loop has counted the items of the attributes before `place`, and laid them.
-- Assumes nothing.
use Rattle.std.proofs.lemmas.Result.{err_from_is_err_and}
use native.Mathlib.Omega.{arith}
use Rattle.octets.proofs.Parts.{slice_octets}
use Rattle.area.proofs.Steps.{step_attribute, step_refused, step_ended}
use Rattle.reading.proofs.Passes.{passing_none, passing_sum, passing_more, passing_done, passing_broken, number_low}
use Rattle.reading.proofs.Passes.{names_fit, item_count, item_within, item_fits}
use Rattle.reading.proofs.put_items.Goals as goal

pub loop-attribute-init : goal.loop-attribute-init
loop-attribute-init c = passing_none _ _

pub returns-in_err-attribute : goal.returns-in_err-attribute
returns-in_err-attribute c =
    let p = err_from_is_err_and c.from_residual.result c.from_residual.ensures.1 in
    rw (p.1, p.2)
    (passing_broken _ _ _ _ _ _ c.loop-attribute.invariant _ (step_refused _ _ _ c.step_at.ensures _ c.in_err-attribute.was))

pub put_names-requires : goal.put_names-requires
put_names-requires c =
    let s = step_attribute _ _ _ c.step_at.ensures _ c.in_ok-attribute.was _ c.in-Some.is in
    let o = slice_octets c.args.area.now c.type_inv.area in
    (number_low _ _ _ _ _ s o, names_fit _ _ _ _ _ s o _ _ _ _ c.loop-attribute.invariant c.requires)

pub slice_bounds-item_of-end : goal.slice_bounds-item_of-end
slice_bounds-item_of-end c =
    let s = step_attribute _ _ _ c.step_at.ensures _ c.in_ok-attribute.was _ c.in-Some.is in
    omega (arith, s.ends, s.inside)

pub put_item-written-requires : goal.put_item-written-requires
put_item-written-requires c =
    let s = step_attribute _ _ _ c.step_at.ensures _ c.in_ok-attribute.was _ c.in-Some.is in
    let o = slice_octets c.args.area.now c.type_inv.area in
    let e = c.item_of-item.ensures in (
      item_count _ _ _ _ _ s o _ e,
      item_within _ _ _ _ _ s o _ e,
      item_fits _ _ _ _ _ s o _ e _ _ _ _ c.loop-attribute.invariant c.requires _ c.put_names.ensures,
    )

pub overflow_add-written : goal.overflow_add-written
overflow_add-written c =
    let s = step_attribute _ _ _ c.step_at.ensures _ c.in_ok-attribute.was _ c.in-Some.is in
    let o = slice_octets c.args.area.now c.type_inv.area in
    omega (arith, passing_sum _ _ _ _ _ s o _ c.item_of-item.ensures _ _ _ _ c.loop-attribute.invariant c.requires _ c.put_names.ensures _ _ c.put_item-written.ensures)

pub loop-attribute-smaller : goal.loop-attribute-smaller
loop-attribute-smaller c =
    let s = step_attribute _ _ _ c.step_at.ensures _ c.in_ok-attribute.was _ c.in-Some.is in
    omega (arith, s.onwards, s.inside)

pub loop-attribute-preserved : goal.loop-attribute-preserved
loop-attribute-preserved c =
    let s = step_attribute _ _ _ c.step_at.ensures _ c.in_ok-attribute.was _ c.in-Some.is in
    let o = slice_octets c.args.area.now c.type_inv.area in
    passing_more _ _ _ _ _ s o _ c.item_of-item.ensures _ _ _ _ c.loop-attribute.invariant c.requires _ c.put_names.ensures _ _ c.put_item-written.ensures

pub returns : goal.returns
returns c =
    passing_done _ _ _ _ _ _ c.loop-attribute.invariant (step_ended _ _ _ c.step_at.ensures _ c.in_ok-attribute.was c.in_default.is)
