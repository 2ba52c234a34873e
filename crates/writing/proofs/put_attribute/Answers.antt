-- The front, the value and the lengths; or nothing, where the value does not stand. Assumes nothing.
use mathlib.Core.Path.{◌∙◌}
use native.Mathlib.Omega.{arith}
use lib.Seq.{length-take-le}
use Rattle.meaning.proofs.Octets.{octets_take}
use Rattle.octets.proofs.Parts.{slice_octets}
use Rattle.meaning.proofs.Framing.{head_two, head_eight}
use Rattle.writing.proofs.Entries.{put_short, attributed}
use Rattle.writing.proofs.put_attribute.Goals as goal

pub put_front-requires : goal.put_front-requires
put_front-requires c = (c.requires.0, omega (arith, c.requires.1.1.1, head_eight c.args.head.number))

pub overflow_add-at : goal.overflow_add-at
overflow_add-at c = omega (arith, c.requires.1.1.1, c.head_len-before.ensures, head_eight c.args.head.number, c.well_formed)

pub put_value-requires : goal.put_value-requires
put_value-requires c = let p = c.requires in
    (c.code_of-code.ensures, (p.1.0, (p.1.1.0, omega (arith, p.1.1.1, c.head_len-before.ensures, head_eight c.args.head.number, c.put_front.auto.buf))))

pub put_lengths-requires : goal.put_lengths-requires
put_lengths-requires c =
    let same = c.put_front.auto.buf in (
      omega (arith, c.head_len-before.ensures, head_two c.args.head.number),
      (
        omega (arith, c.head_len-before.ensures, put_short _ _ _ _ (octets_take c.args.size c.args.rest.now (slice_octets c.args.rest.now c.shared_slice_known-1.given)) (length-take-le _ _ c.requires.1.1.0 ∙ c.requires.1.0) _ _ _ _ (rw c.head_len-before.ensures at c.put_value.ensures) _ c.in_ok-put.was),
        omega (arith, c.head_len-before.ensures, head_eight c.args.head.number, c.requires.1.1.1, c.put_value.auto.buf, same),
      ),
    )

pub returns : goal.returns
returns c =
    rw c.head_len-before.ensures
    (attributed _ _ _ _ (octets_take c.args.size c.args.rest.now (slice_octets c.args.rest.now c.shared_slice_known-1.given)) (length-take-le _ _ c.requires.1.1.0 ∙ c.requires.1.0) _ _ _ _ (rw c.head_len-before.ensures at c.put_value.ensures) _ c.in_ok-put.was _ _
    (omega (arith, c.head_len-before.ensures, c.head_len-before.ensures, head_eight c.args.head.number, c.requires.1.1.1)) c.put_front.ensures
    (rw c.head_len-before.ensures at c.put_lengths.ensures))
