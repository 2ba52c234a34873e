-- No such value, or the value with what stands behind it, or the value alone. Assumes nothing.
use borrow.Author.Tests.{not-false}
use mathlib.Core.Path.{sym, ◌∙◌}
use Rattle.writing.proofs.Valuing.{raw_sixteen, raw_alone}
use Rattle.writing.proofs.put_raw.Goals as goal

pub returns-then-size-le16 : goal.returns-then-size-le16
returns-then-size-le16 c = let p = c.requires in
    raw_sixteen _ _ _ _ _ _ _ _ p.0 p.1 (sym c.is_raw.ensures ∙ not-false _ c.if-not-is_raw.false-raw) c.if-size-le16.true c.copy_sixteen.ensures.holds

pub returns-else-size-le16 : goal.returns-else-size-le16
returns-else-size-le16 c = let p = c.requires in
    raw_alone _ _ _ _ _ _ _ _ p.0 p.1 (sym c.is_raw.ensures ∙ not-false _ c.if-not-is_raw.false-raw) c.copy_long.ensures.holds
