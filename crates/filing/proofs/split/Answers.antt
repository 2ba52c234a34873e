-- A second tab is looked for behind the first. Assumes nothing.
use Rattle.std.proofs.Common.{arith}
use Rattle.std.proofs.lemmas.Grind.{common_steps}
use Rattle.filing.specs.Names.{line_of, line_with}
use Rattle.filing.proofs.Names.{place_is}
use Rattle.filing.proofs.split.Goals as goal

pub returns-in_default : goal.returns-in_default
unfolding line_of line_with
returns-in_default c = grind (arith, common_steps, place_is 9 c.args.line.now)

pub returns-then-has : goal.returns-then-has
unfolding line_of line_with
returns-then-has c = grind (arith, common_steps, place_is 9 c.args.line.now)

pub returns : goal.returns
unfolding line_of line_with
returns c = grind (arith, common_steps, place_is 9 c.args.line.now)
