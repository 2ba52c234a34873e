-- The octets are laid over the buffer from the place on, if they fit. Assumes nothing.
use mathlib.Core.Path.{refl}
use Rattle.octets.proofs.Overs.{laid_not, laid_part}
use Rattle.octets.proofs.copy_long.Goals as goal

pub returns-then-not-fits : goal.returns-then-not-fits
returns-then-not-fits c = laid_not _ _ _ _ _ refl c.fits.ensures c.if-not-fits.true

pub returns : goal.returns
returns c = laid_part _ _ _ _ _ refl c.fits.ensures _ c.if-not-fits.false c.copy.ensures
