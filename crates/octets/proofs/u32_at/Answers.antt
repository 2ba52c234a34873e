-- The library's number of the four octets where they are there, else that of the part, which fits the width. Assumes nothing.
use mathlib.Core.Path.{ap}
use native.Mathlib.Omega.{arith}
use lib.ListN.{length}
use Rattle.octets.proofs.Parts.{part_within, part_at_most, part_narrows, part_octet}
use Rattle.octets.proofs.Numbers.{read_four}
use Rattle.octets.proofs.u32_at.Goals as goal

pub returns-then-at-s : goal.returns-then-at-s
returns-then-at-s c =
    let a = c.args in
    read_four _ _ (part_within a.s.now a.at 4 (omega (arith, c.if-s-ge4.true, c.if-at-s.true))) (part_octet a.s.now c.type_inv.s a.at 4) c.from_be_bytes.type_inv
    (rw c.array_at.ensures at c.from_be_bytes.ensures)

pub number-requires : goal.number-requires
number-requires c = let a = c.args in omega (arith, ap length c.part.ensures, part_at_most a.s.now a.at 4)

pub overflow_cast-result : goal.overflow_cast-result
overflow_cast-result c = let a = c.args in omega (arith, part_narrows a.s.now _ a.at 4 _ c.part.ensures c.number.ensures.fits)
