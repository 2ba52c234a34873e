-- The packed halves are laid over the part from the place on, if they fit. Assumes nothing.
use mathlib.Core.Path.{sym, ◌∙◌}
use borrow.Author.Tests.{not-true, not-false}
use Rattle.meaning.specs.Octets.{pack}
use Rattle.octets.specs.DigitStrings.{halves}
use Rattle.octets.proofs.Overs.{laid_not, laid_part}
use Rattle.octets.proofs.Halves.{halves_packed}
use Rattle.octets.proofs.pack_at.Goals as goal

pub returns-then-not-fits : goal.returns-then-not-fits
returns-then-not-fits c =
    let a = c.args in
    laid_not a.at (pack (halves a.text.now)) a.buf.now _ _ (c.packed_len.ensures ∙ sym (halves_packed c.args.text.now)) c.fits.ensures (not-true _ c.if-not-fits.true-raw)

pub returns : goal.returns
returns c =
    let a = c.args in
    laid_part a.at (pack (halves a.text.now)) a.buf.now _ _ (c.packed_len.ensures ∙ sym (halves_packed c.args.text.now)) c.fits.ensures _ (not-false _ c.if-not-fits.false-raw) c.pack_text.ensures
