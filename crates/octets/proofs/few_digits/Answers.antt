-- Each digit's half is put before those of the digits behind it. Assumes nothing.
use mathlib.Core.Path.{◌≡◌, sym, ◌∙◌}
use Prim.Native.Nat.{◌+◌, ◌*◌, ◌/◌, ◌%◌}
use native.Mathlib.Omega.{arith}
use Rattle.std.specs.Prelude.{reverse}
use Rattle.std.specs.List.{fold}
use Rattle.std.proofs.lemmas.Grind.{common_steps}
use Rattle.octets.proofs.Gathering.{gathered_other, gathered_put}
use Rattle.octets.proofs.few_digits.Goals as goal

pub returns-then-not-all_digits : goal.returns-then-not-all_digits
returns-then-not-all_digits c = sym (gathered_other _ (sym c.all_digits.ensures ∙ c.if-not-all_digits.true))

pub returns : goal.returns
returns c =
    let text = c.args.text.now in
    let e : c.fold.result ≡ fold (λ p x. p / 16 + x % 16 * 1152921504606846976) 18446744073709551615 (reverse text) = grind (arith, common_steps) in
    e ∙ gathered_put text (omega arith) (sym c.all_digits.ensures ∙ c.if-not-all_digits.false)
