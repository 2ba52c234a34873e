-- What is gathered is spread; where nothing is, there are no digits. Assumes nothing.
use mathlib.Core.Path.{sym, ap, ◌∙◌}
use Rattle.meaning.specs.Octets.{unpack}
use Rattle.octets.proofs.Gathering.{got_nothing, got_gathered}
use Rattle.octets.proofs.digits_of.Goals as goal

pub returns-then-p-eq0 : goal.returns-then-p-eq0
returns-then-p-eq0 c = c.none.ensures ∙ sym (got_nothing _ _ c.gathered-p.ensures c.if-p-eq0.true)

pub returns : goal.returns
returns c = got_gathered _ _ c.gathered-p.ensures c.if-p-eq0.false (c.spread.ensures.0 ∙ ap (unpack 15) c.u64_octets.ensures) c.spread.ensures.1
