-- The octets are copied into a part of just their length. Assumes nothing.
use mathlib.Core.Path.{refl}
use Rattle.octets.proofs.Overs.{copied_part}
use Rattle.octets.proofs.lay_at.Goals as goal

pub returns : goal.returns
returns c = copied_part _ _ _ _ _ refl c.requires c.copy_from_slice.ensures.after
