-- Two octets, or one twice. Assumes nothing.
use mathlib.Core.Path.{refl}
use Rattle.writing.specs.Attributes.{lengths_at}
use Rattle.writing.proofs.put_lengths.Goals as goal

pub returns : goal.returns
unfolding lengths_at
returns c = refl
