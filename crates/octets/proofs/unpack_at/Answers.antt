-- The text of the halves is laid over the part from the place on, if it fits. Assumes nothing.
use mathlib.Core.Path.{sym, ◌∙◌}
use borrow.Author.Tests.{not-true, not-false}
use Rattle.meaning.specs.Octets.{digit_text, unpack, text}
use Rattle.octets.proofs.Overs.{laid_not, laid_part}
use Rattle.octets.proofs.Unpacking.{unpacked_length, each_over}
use Rattle.octets.proofs.unpack_at.Goals as goal

pub returns-then-not-fits : goal.returns-then-not-fits
returns-then-not-fits c =
    let a = c.args in
    laid_not a.at (text (unpack a.count a.s.now)) a.buf.now _ _ (c.half_count-n.ensures ∙ sym (unpacked_length c.args.count c.args.s.now)) c.fits.ensures (not-true _ c.if-not-fits.true-raw)

pub returns : goal.returns
unfolding text
returns c =
    let a = c.args in
    laid_part a.at (text (unpack a.count a.s.now)) a.buf.now _ _ (c.half_count-n.ensures ∙ sym (unpacked_length c.args.count c.args.s.now)) c.fits.ensures _ (not-false _ c.if-not-fits.false-raw) (each_over digit_text a.count a.s.now _ _ _ c.half_count-n.ensures c.unpack_text.ensures)
