-- The code that takes 5 or 6 digits, the one that takes 1 to 15, and any other. Assumes nothing.
use Rattle.item.proofs.Shaping.{takes_many}
use Rattle.item.proofs.takes_digits.Goals as goal

pub returns : goal.returns
returns c = takes_many c.args.code c.args.count c.if-code-eq-SHORT_DIGITS.false
