-- `presence::row_of` meets its contract, by one computed test over the table. Assumes nothing.
use native.Mathlib.Omega.{arith}
use Rattle.meaning.specs.Presence.{mandatory}
use Rattle.meaning.specs.Codes.{code}
use Rattle.presence.specs.Rows.{row_by, row_of, agrees, by_kind}
use Rattle.presence.proofs.Rows.{row_of_kind, no_kind}
use Rattle.presence.proofs.row_of.Goals as goal

-- The test: all 1,536 entries of the const agree with the presence lines, computed.
pub agreed-requires : goal.agreed-requires
unfolding agrees row_by by_kind code mandatory
agreed-requires c = tt

pub returns-in-1 : goal.returns-in-1
returns-in-1 c = row_of_kind _ _ 0 (omega arith) c.in-1.is (c.agreed.ensures 0 (omega arith))

pub returns-in-2 : goal.returns-in-2
returns-in-2 c = row_of_kind _ _ 1 (omega arith) c.in-2.is (c.agreed.ensures 1 (omega arith))

pub returns-in-3 : goal.returns-in-3
returns-in-3 c = row_of_kind _ _ 2 (omega arith) c.in-3.is (c.agreed.ensures 2 (omega arith))

pub returns-in-4 : goal.returns-in-4
returns-in-4 c = row_of_kind _ _ 3 (omega arith) c.in-4.is (c.agreed.ensures 3 (omega arith))

pub returns-in-5 : goal.returns-in-5
returns-in-5 c = row_of_kind _ _ 4 (omega arith) c.in-5.is (c.agreed.ensures 4 (omega arith))

pub returns-in-6 : goal.returns-in-6
returns-in-6 c = row_of_kind _ _ 5 (omega arith) c.in-6.is (c.agreed.ensures 5 (omega arith))

pub returns-in_default : goal.returns-in_default
unfolding row_of
returns-in_default c = rw (no_kind c.args.kind (λ l m. omega (arith, l, m)))
