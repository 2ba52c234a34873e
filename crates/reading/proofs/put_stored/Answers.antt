-- `reading::put_stored` meets its contract. Assumes nothing.
use native.Mathlib.Omega.{arith}
use Rattle.octets.proofs.Overs.{copied_part}
use Rattle.reading.proofs.Laying.{put_as, put_address, digits_put, number_stored, address_stored, digits_stored, rest_stored}
use Rattle.reading.proofs.Laying.{rest_holds, rest_room}
use Rattle.reading.proofs.put_stored.Goals as goal

pub returns-in-Number : goal.returns-in-Number
returns-in-Number c = put_as _ _ _ _ _ _ (number_stored _ _ _ c.in-Number.is) c.put_number.ensures

pub returns-in-Address : goal.returns-in-Address
returns-in-Address c =
    put_as _ _ _ _ _ _ (address_stored _ _ _ c.in-Address.is)
    (put_address _ _ _ _ _ c.u32_octets-four.ensures (omega (arith, c.requires.1))
    (copied_part _ _ _ _ _ (omega arith) (omega (arith, c.requires.1)) c.copy_from_slice.ensures.after))

pub returns-in-Digits : goal.returns-in-Digits
returns-in-Digits c =
    put_as _ _ _ _ _ _ (digits_stored _ _ c.in-Digits.is)
    (digits_put _ _ _ _ _ _ _ c.packed-eight.ensures c.min.ensures
    c.packed_len.ensures (omega (arith, c.requires.1))
    (copied_part _ _ _ _ _ (omega arith) (omega (arith, c.requires.1)) c.copy_from_slice-in-Digits.ensures.after))

pub put_part-requires : goal.put_part-requires
put_part-requires c =
    let is = c.in-Plain.is in
    (c.requires.0.released _ is, (rest_holds _ _ _ is c.requires.0, rest_room _ _ _ is _ _ c.requires.1))

pub returns-in-Plain : goal.returns-in-Plain
returns-in-Plain c = put_as _ _ _ _ _ _ (rest_stored _ _ _ c.in-Plain.is) c.put_part.ensures
