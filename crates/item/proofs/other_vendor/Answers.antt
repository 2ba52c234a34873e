-- Fewer than five octets, or the id decides. Assumes nothing.
use native.Mathlib.Omega.{arith}
use Rattle.item.proofs.Judging.{vendor_short, vendor_id}
use Rattle.item.proofs.other_vendor.Goals as goal

pub returns-then-value-lt5 : goal.returns-then-value-lt5
returns-then-value-lt5 c = vendor_short _ (omega arith)

pub returns : goal.returns
returns c = vendor_id _ _ (omega arith) c.u32_at.ensures
