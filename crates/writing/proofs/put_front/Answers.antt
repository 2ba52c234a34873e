-- One octet, or eight. Assumes nothing.
use native.Mathlib.Omega.{arith}
use Rattle.meaning.proofs.Framing.{head_two}
use Rattle.octets.proofs.Overs.{copied_part}
use Rattle.area.proofs.Carrying.{gpp_head_length}
use Rattle.writing.proofs.Putting.{plain_front, gpp_front}
use Rattle.writing.proofs.put_front.Goals as goal

pub bounds-buf-at : goal.bounds-buf-at
bounds-buf-at c = omega (arith, c.requires.1, head_two c.args.number)

pub returns-then-number-lt256 : goal.returns-then-number-lt256
returns-then-number-lt256 c = plain_front _ _ _ c.if-number-lt256.true c.requires.1

pub returns : goal.returns
returns c =
    let far = c.if-number-lt256.false in
    gpp_front _ _ _ _ _ far c.u32_octets-id.ensures
    (copied_part _ _ _ _ _ (omega arith) (omega (arith, c.requires.1, gpp_head_length c.args.number far)) c.copy_from_slice.ensures.after)

pub slice_bounds-copy_from_slice-end : goal.slice_bounds-copy_from_slice-end
slice_bounds-copy_from_slice-end c = omega (arith, c.requires.1, gpp_head_length c.args.number c.if-number-lt256.false)
