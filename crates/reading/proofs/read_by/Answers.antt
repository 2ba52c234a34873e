-- `reading::read_by` meets its contract. Assumes nothing.
use Rattle.std.proofs.lemmas.Result.{err_from_is_err_and}
use mathlib.Core.Path.{refl}
use native.Mathlib.Omega.{arith}
use Rattle.octets.proofs.Parts.{slice_octets}
use Rattle.reading.proofs.Whole.{bounded, handed_read, framing_refused, items_within}
use Rattle.reading.proofs.read_by.Goals as goal

pub returns-in_err-tally : goal.returns-in_err-tally
returns-in_err-tally g c =
    let p = err_from_is_err_and c.from_residual.result c.from_residual.ensures.1 in
    rw (p.1, p.2) (framing_refused _ _ _ c.requires.0 _ _ (omega (arith, c.requires.1, c.put_items.auto.buf)) c.put_items.ensures _ _ c.in_err-tally.was)

pub shared_whole_as_front-hand_over : goal.shared_whole_as_front-hand_over
shared_whole_as_front-hand_over g c =
    (omega (arith, c.put_items.auto.buf, items_within _ _ _ c.requires.0 _ _ (omega (arith, c.requires.1, c.put_items.auto.buf)) c.put_items.ensures _ c.in_ok-tally.was), omega (arith, c.requires.2))

pub hand_over-requires : goal.hand_over-requires
hand_over-requires g c =
    bounded _ _ _ c.requires.0 _ _ (omega (arith, c.requires.1, c.put_items.auto.buf)) c.put_items.ensures _ c.in_ok-tally.was
    (slice_octets c.args.area.now c.type_inv.area)

pub returns : goal.returns
returns g c =
    handed_read _ _ _ c.requires.0 _ _ (omega (arith, c.requires.1, c.put_items.auto.buf)) c.put_items.ensures _ c.in_ok-tally.was _ _ _ _ refl
    c.hand_over.ensures
