-- Few octets are tested one by one; the eights and the last eight leave none out. Assumes nothing.
use mathlib.Core.Path.{◌≡◌, refl, sym, ◌∙◌}
use mathlib.Core.Bool.{true, false, ◌&&◌}
use native.Mathlib.Omega.{arith}
use lib.ListN.{length}
use Prim.Native.Nat.{◌/◌}
use Rattle.std.specs.List.{fold}
use Rattle.std.proofs.lemmas.Grind.{common_steps}
use Rattle.meaning.specs.Octets.{is_digit}
use Rattle.octets.proofs.EachOne.{fold_all, chunks_last}
use Rattle.octets.proofs.all_digits.Goals as goal

pub returns-in_default : goal.returns-in_default
returns-in_default c =
    let e : c.fold.result ≡ fold (λ b x. b && is_digit x) true c.args.s.now = grind (arith, common_steps) in
    e ∙ fold_all is_digit c.args.s.now

pub returns-then-eights_are_digits : goal.returns-then-eights_are_digits
returns-then-eights_are_digits c =
    let s = c.args.s.now in
    chunks_last is_digit s _ _ 8 (length s / 8) c.as_chunks.ensures.front (omega arith) c.in-Some.ensures.cases.1.same true _
    (sym c.if-eights_are_digits.true ∙ c.eights_are_digits.ensures) c.eight_digits.ensures

pub returns-else-eights_are_digits : goal.returns-else-eights_are_digits
returns-else-eights_are_digits c =
    let s = c.args.s.now in
    c.if-eights_are_digits.false
    ∙ chunks_last is_digit s _ _ 8 (length s / 8) c.as_chunks.ensures.front (omega arith) c.in-Some.ensures.cases.1.same false _
    (sym c.if-eights_are_digits.false ∙ c.eights_are_digits.ensures) refl
