-- Each octet has its two halves. Assumes nothing.
use borrow.Author.Rules.{rules}
use mathlib.Core.Path.{refl, ap}
use Rattle.meaning.specs.Octets.{unpack}
use Rattle.octets.proofs.Parts.{all_placed}
use Rattle.octets.proofs.spread.Goals as goal

pub returns : goal.returns
unfolding unpack
returns c = (ap (unpack 15) (all_placed c.args.e 8 (search rules)), refl)
