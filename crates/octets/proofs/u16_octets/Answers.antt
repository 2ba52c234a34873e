-- The octets of the library are those of the number. Assumes nothing.
use mathlib.Core.Path.{◌∙◌}
use Rattle.octets.proofs.Numbers.{high_first}
use Rattle.octets.proofs.u16_octets.Goals as goal

pub returns : goal.returns
returns c = c.to_be_bytes.ensures ∙ high_first 2 c.args.n
