-- `reading::put_part` meets its contract. Assumes nothing.
use mathlib.Core.Path.{sym, ap, ◌∙◌}
use native.Mathlib.Omega.{arith}
use lib.Seq.{length-take-le}
use Rattle.meaning.specs.Octets.{packed_length}
use Rattle.octets.proofs.Halves.{halves_packed}
use Rattle.reading.proofs.Laying.{put_laid, put_as, short_put, part_5, part_6, part_plain, qos_room}
use Rattle.reading.proofs.put_part.Goals as goal

pub returns-then-form-eq5 : goal.returns-then-form-eq5
returns-then-form-eq5 c =
    put_laid _ _ _ _ _ _ (part_5 _ _ c.if-form-eq5.true) (c.packed_len.ensures ∙ sym (halves_packed _ ∙ ap packed_length (length-take-le _ _ c.requires.1.0))) (omega (arith, c.requires.1.1)) c.pack_at.ensures.holds

pub put_qos-requires : goal.put_qos-requires
put_qos-requires c =
    let long = length-take-le c.args.len c.args.rest.now c.requires.1.0 in
    (omega (arith, c.requires.0 c.if-form-eq6.true, long), qos_room _ _ _ _ c.if-form-eq5.false c.if-form-eq6.true c.requires.1.1)

pub returns-then-form-eq6 : goal.returns-then-form-eq6
returns-then-form-eq6 c = put_as _ _ _ _ _ _ (part_6 _ _ c.if-form-eq5.false c.if-form-eq6.true) c.put_qos.ensures

pub returns-then-len-le16 : goal.returns-then-len-le16
returns-then-len-le16 c =
    short_put _ _ _ _ _ _ (part_plain _ _ c.if-form-eq5.false c.if-form-eq6.false) c.requires.1.0 c.if-len-le16.true c.requires.1.1 c.copy_sixteen.ensures.holds

pub returns-else-len-le16 : goal.returns-else-len-le16
returns-else-len-le16 c =
    put_laid _ _ _ _ _ _ (part_plain _ _ c.if-form-eq5.false c.if-form-eq6.false) (sym (length-take-le _ _ c.requires.1.0)) (omega (arith, c.requires.1.1)) c.copy_long.ensures.holds
