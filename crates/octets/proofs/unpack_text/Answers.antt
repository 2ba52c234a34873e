-- The octets passed are written, two digits each; an odd last digit comes behind them. Assumes nothing.
use mathlib.Core.Path.{◌≡◌, ◌∙◌}
use Prim.Native.Nat.{◌/◌}
use native.Mathlib.Omega.{arith}
use lib.ListN.{get_or}
use lib.Seq.{length-take-le, get_or-take}
use Rattle.meaning.specs.Octets.{digit_text, text}
use Rattle.octets.proofs.Overs.{overlaid_none, overlaid_all}
use Rattle.octets.proofs.Unpacking.{unpacked_length, high_written, two_written, high_text}
use Rattle.octets.proofs.unpack_text.Goals as goal

pub loop-i-init : goal.loop-i-init
loop-i-init c =
    let a = c.args in
    overlaid_none _ _ (omega (arith, unpacked_length a.n a.s.now))

pub loop-i-preserved : goal.loop-i-preserved
unfolding text
loop-i-preserved c =
    let u = c.loop-i in
    let a = c.args in
    let size = length-take-le (a.n / 2) a.s.now (omega arith) in
    let here = get_or-take (a.n / 2) a.s.now u.i 0 (omega arith) in
    two_written digit_text _ _ _ _ _ u.invariant (omega arith) _ _ (omega arith)
    ((rw here at c.digit_text.ensures) ∙ high_text (get_or a.s.now u.i 0) (omega (arith, c.type_inv.s u.i)))
    (rw here at c.digit_text-in-loop-i.ensures)

pub returns-then-pairs-n : goal.returns-then-pairs-n
unfolding text
returns-then-pairs-n c =
    let a = c.args in
    let i = a.n / 2 in
    let size = length-take-le i a.s.now (omega arith) in
    let end : c.loop-i.i ≡ i = omega arith in
    overlaid_all _ _ _ _ (high_written digit_text _ _ _ _ _ (rw end at c.loop-i.invariant) (omega arith) _ (omega arith) (c.digit_text-then-pairs-n.ensures ∙ high_text (get_or a.s.now i 0) (omega (arith, c.type_inv.s i)))) (omega (arith, unpacked_length a.n a.s.now))

pub returns-else-pairs-n : goal.returns-else-pairs-n
returns-else-pairs-n c =
    let a = c.args in
    let size = length-take-le (a.n / 2) a.s.now (omega arith) in
    overlaid_all _ _ _ _ c.loop-i.invariant (omega (arith, unpacked_length a.n a.s.now))
