-- The pass over the items. Assumes nothing.
use Rattle.std.proofs.lemmas.Result.{err_from_is_err_and}
use mathlib.Core.Path.{◌≡◌, refl, sym, ap, ◌∙◌}
use Prim.Native.Nat.{ℕ, ◌+◌, ◌-◌, min}
use native.Mathlib.Omega.{arith}
use Rattle.octets.proofs.Parts.{slice_octets}
use Rattle.writing.proofs.Entries.{size_is, size_within, behind_head, behind_within, carried_low, attributed_here}
use Rattle.writing.proofs.Transcribing.{transcribing_none, transcribing_more}
use Rattle.writing.proofs.Transcribing.{transcribing_refused, transcribing_23, transcribing_22, transcribing_all}
use Rattle.writing.proofs.transcribe.Goals as goal

pub loop-item-init : goal.loop-item-init
loop-item-init c =
    let all : c.u16_at-count.result - 0 ≡ c.u16_at-count.result = omega arith in
    (transcribing_none c.args.sheet.now _ _ (slice_octets _ c.type_inv.sheet) (all ∙ c.u16_at-count.ensures), refl)

pub returns-in_err-head : goal.returns-in_err-head
returns-in_err-head c =
    let p = err_from_is_err_and c.from_residual.result c.from_residual.ensures.1 in
    rw (p.1, p.2)
    (transcribing_refused _ _ _ _ _ c.loop-item.invariant.0 (omega (arith, c.loop-item-test.true)) (slice_octets _ c.type_inv.sheet) _ c.head_at.ensures _ _ c.in_err-head.was)

pub overflow_add-behind : goal.overflow_add-behind
overflow_add-behind c =
    let o = slice_octets c.args.sheet.now c.type_inv.sheet in
    omega (arith, behind_head _ _ o _ c.head_at.ensures _ c.in_ok-head.was, behind_within _ _ o _ c.head_at.ensures _ c.in_ok-head.was, c.well_formed)

pub slice_bounds-rest-count : goal.slice_bounds-rest-count
slice_bounds-rest-count c =
    let o = slice_octets c.args.sheet.now c.type_inv.sheet in
    omega (arith, behind_head _ _ o _ c.head_at.ensures _ c.in_ok-head.was, behind_within _ _ o _ c.head_at.ensures _ c.in_ok-head.was)

pub slice_bounds-rest-start : goal.slice_bounds-rest-start
slice_bounds-rest-start c =
    let o = slice_octets c.args.sheet.now c.type_inv.sheet in
    omega (arith, behind_head _ _ o _ c.head_at.ensures _ c.in_ok-head.was, behind_within _ _ o _ c.head_at.ensures _ c.in_ok-head.was)

pub overflow_sub-size : goal.overflow_sub-size
overflow_sub-size c = behind_head _ _ (slice_octets c.args.sheet.now c.type_inv.sheet) _ c.head_at.ensures _ c.in_ok-head.was

pub put_attribute-requires : goal.put_attribute-requires
put_attribute-requires c =
    let o = slice_octets c.args.sheet.now c.type_inv.sheet in
    (carried_low _ _ o _ c.head_at.ensures _ c.in_ok-head.was, (size_is _ _ o _ c.head_at.ensures _ c.in_ok-head.was, (size_within _ _ o _ c.head_at.ensures _ c.in_ok-head.was, omega (arith, c.loop-item.invariant.1, c.requires.1, c.min-at.ensures))))

pub returns-in_default : goal.returns-in_default
returns-in_default c =
    let o = slice_octets c.args.sheet.now c.type_inv.sheet in
    rw c.broken.ensures
    (transcribing_23 _ _ _ _ _ c.loop-item.invariant.0 (omega (arith, c.loop-item-test.true)) o _ c.head_at.ensures _ c.in_ok-head.was _ _ _ (attributed_here _ _ o _ c.head_at.ensures _ c.in_ok-head.was _ _ _ _ c.put_attribute.ensures)
    c.in_default.is)

pub loop-item-preserved : goal.loop-item-preserved
loop-item-preserved c =
    let o = slice_octets c.args.sheet.now c.type_inv.sheet in
    let one : c.u16_at-count.result - c.loop-item._item - 1 ≡ c.u16_at-count.result - (c.loop-item._item + 1) = omega arith in
    let on = transcribing_more _ _ _ _ _ c.loop-item.invariant.0 (omega (arith, c.loop-item-test.true)) o _ c.head_at.ensures _ c.in_ok-head.was _ _ _ (attributed_here _ _ o _ c.head_at.ensures _ c.in_ok-head.was _ _ _ _ c.put_attribute.ensures) _
    c.in-Some.is (omega (arith, c.loop-item.invariant.1, c.requires.1))
    (c.min-at.ensures ∙ ap (λ (n : ℕ). min c.loop-item.written (n - 263)) (sym c.loop-item.invariant.1)) in
    (rw one at on, c.put_attribute.auto.buf ∙ c.loop-item.invariant.1)

pub returns-then-place-sheet : goal.returns-then-place-sheet
returns-then-place-sheet c =
    rw c.broken-then-place-sheet.ensures
    (transcribing_22 _ _ _ _ _ c.loop-item.invariant.0 (omega (arith, c.loop-item-test.false)) c.if-place-sheet.true)

pub returns : goal.returns
returns c =
    transcribing_all _ _ _ _ _ c.loop-item.invariant.0 (omega (arith, c.loop-item-test.false)) (omega (arith, c.if-place-sheet.false))
