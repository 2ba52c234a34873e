-- The octets are tested all at once. Assumes nothing.
use Rattle.octets.proofs.Eights.{eight_below}
use Rattle.octets.proofs.beyond.Goals as goal

pub returns : goal.returns
returns c = eight_below c.args.d c.ranges.d.fits
