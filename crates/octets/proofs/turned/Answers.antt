-- Two bits of each octet are turned. Assumes nothing.
use Rattle.octets.proofs.Eights.{eight_turned}
use Rattle.octets.proofs.turned.Goals as goal

pub returns : goal.returns
returns c = eight_turned c.args.a c.ranges.a.fits
