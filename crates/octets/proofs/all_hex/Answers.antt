-- Few octets are tested one by one; the sixteens and the last sixteen leave none out. Assumes nothing.
use mathlib.Core.Path.{◌≡◌, refl, sym, ◌∙◌}
use mathlib.Core.Bool.{true, false, ◌&&◌}
use native.Mathlib.Omega.{arith}
use lib.ListN.{length}
use Prim.Native.Nat.{◌/◌}
use Rattle.std.specs.List.{fold}
use Rattle.std.proofs.lemmas.Grind.{common_steps}
use Rattle.meaning.specs.Octets.{is_hex}
use Rattle.octets.proofs.EachOne.{fold_all, chunks_last}
use Rattle.octets.proofs.all_hex.Goals as goal

pub returns-in_default : goal.returns-in_default
returns-in_default c =
    let e : c.fold.result ≡ fold (λ b x. b && is_hex x) true c.args.s.now = grind (arith, common_steps) in
    e ∙ fold_all is_hex c.args.s.now

pub returns-then-sixteens_are_hex : goal.returns-then-sixteens_are_hex
returns-then-sixteens_are_hex c =
    let s = c.args.s.now in
    chunks_last is_hex s _ _ 16 (length s / 16) c.as_chunks.ensures.front (omega arith) c.in-Some.ensures.cases.1.same true _
    (sym c.if-sixteens_are_hex.true ∙ c.sixteens_are_hex.ensures) c.hex_sixteen.ensures

pub returns-else-sixteens_are_hex : goal.returns-else-sixteens_are_hex
returns-else-sixteens_are_hex c =
    let s = c.args.s.now in
    c.if-sixteens_are_hex.false
    ∙ chunks_last is_hex s _ _ 16 (length s / 16) c.as_chunks.ensures.front (omega arith) c.in-Some.ensures.cases.1.same false _
    (sym c.if-sixteens_are_hex.false ∙ c.sixteens_are_hex.ensures) refl
