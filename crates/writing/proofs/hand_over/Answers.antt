-- 25, or the area. Assumes nothing.
use mathlib.Core.Path.{sym}
use Rattle.octets.proofs.Overs.{copied_front}
use Rattle.writing.proofs.Whole.{made_long, over_not, over_laid}
use Rattle.writing.proofs.hand_over.Goals as goal

pub returns-then-area-length : goal.returns-then-area-length
returns-then-area-length c = over_not _ _ _ c.requires c.if-area-length.true

pub returns : goal.returns
returns c =
    over_laid _ _ _ c.requires _ c.if-area-length.false
    (copied_front _ _ _ _ (sym (made_long c.args.written _ c.args.area.now c.requires)) c.copy_from_slice.ensures.after)
