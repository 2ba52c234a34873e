-- Fewer than sixteen octets are copied as they are, else the first sixteen. Assumes nothing.
use mathlib.Core.Path.{◌≡◌}
use native.Mathlib.Omega.{arith}
use Rattle.octets.specs.Parts.{part_of}
use Rattle.octets.proofs.Parts.{part_rest}
use Rattle.octets.proofs.copy_sixteen.Goals as goal

pub returns-in_default : goal.returns-in_default
returns-in_default c =
    let all : part_of c.args.src.now 0 16 ≡ c.args.src.now = part_rest c.args.src.now 0 16 (omega (arith, c.in_default.ensures.cases)) in
    rw all c.copy_long.ensures

pub returns : goal.returns
unfolding part_of
returns c = rw c.in-Some.ensures.cases.same at c.copy_at.ensures
