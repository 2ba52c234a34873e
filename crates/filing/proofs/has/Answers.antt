-- There is one where fewer octets stand before the first than there are. Assumes nothing.
use Rattle.std.proofs.Common.{◌∙◌}
use Rattle.filing.proofs.Names.{held_is}
use Rattle.filing.proofs.has.Goals as goal

pub returns : goal.returns
returns c = c.contains.ensures.value ∙ held_is c.args.x c.args.s.now
