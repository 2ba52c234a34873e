-- What the tests say together, from the left. Assumes nothing.
use mathlib.Core.Path.{◌≡◌, ◌∙◌}
use mathlib.Core.Bool.{true, ◌&&◌}
use native.Mathlib.Omega.{arith}
use Rattle.std.specs.List.{fold}
use Rattle.std.proofs.lemmas.Grind.{common_steps}
use Rattle.meaning.specs.Octets.{is_hex}
use Rattle.octets.proofs.EachOne.{fold_all}
use Rattle.octets.proofs.hex_sixteen.Goals as goal

pub returns : goal.returns
returns c =
    let e : c.fold.result ≡ fold (λ b x. b && is_hex x) true c.args.sixteen.now = grind (arith, common_steps) in
    e ∙ fold_all is_hex c.args.sixteen.now
