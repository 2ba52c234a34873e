-- No head, no stored octets, a sub-attribute number on a plain item, and an item. Assumes nothing.
use mathlib.Core.Path.{◌∙◌}
use native.Mathlib.Omega.{arith}
use Rattle.item.proofs.Entering.{headed_cut, headed_sub, headed_item}
use Rattle.item.proofs.head_at.Goals as goal

pub returns-then-left-size : goal.returns-then-left-size
returns-then-left-size c = c.refused-then-left-size.ensures ∙ headed_cut _ _ _ c.stored_len-size.ensures (omega arith) (omega arith)

pub returns-then-number-sub : goal.returns-then-number-sub
returns-then-number-sub c = c.refused-then-number-sub.ensures ∙ headed_sub _ _ _ c.stored_len-size.ensures (omega arith) _ c.number_in-number.ensures c.if-number-sub.true

pub returns : goal.returns
returns c = headed_item _ _ _ c.stored_len-size.ensures (omega arith) _ c.number_in-number.ensures c.if-number-sub.false
