-- The octets passed hold two digits each, which are laid; an odd last digit comes behind them. Assumes nothing.
use borrow.Author.Tests.{not-true, not-false}
use mathlib.Core.Path.{◌≡◌, sym, ◌∙◌}
use Prim.Native.Nat.{◌/◌}
use native.Mathlib.Omega.{arith}
use Rattle.octets.proofs.Overs.{pasted_none}
use Rattle.octets.proofs.Unpacking.{decimals_length, decided_none, decided_more, decided_not, decided_last, decided_all}
use Rattle.writing.proofs.Valuing.{digit_high, digits_two, digits_none, digits_laid}
use Rattle.writing.proofs.put_digits.Goals as goal

pub loop-i-init : goal.loop-i-init
loop-i-init c = (decided_none _ _ c.requires.0, pasted_none _ _ _ (omega (arith, c.requires.1, decimals_length c.args.count c.args.stored.now)))

pub returns-then-not-x : goal.returns-then-not-x
returns-then-not-x c = digits_none _ _ _ _ _ (decided_not _ _ _ c.loop-i.invariant.0 (omega arith) (not-true _ c.if-not-x.true-raw))

pub loop-i-preserved : goal.loop-i-preserved
loop-i-preserved c = let u = c.loop-i in
    (decided_more _ _ _ u.invariant.0 (omega arith) (not-false _ c.if-not-x.false-raw), digits_two _ _ _ _ _ _ u.invariant.1 (omega (arith, c.requires.0)) (omega arith))

pub returns-then-not-x-2 : goal.returns-then-not-x-2
returns-then-not-x-2 c =
    let passed : c.loop-i.i ≡ c.args.count / 2 = omega arith in
    digits_none _ _ _ _ _
    (sym (not-true _ c.if-not-x-2.true-raw) ∙ decided_last _ _ _ (rw passed at c.loop-i.invariant.0) (omega arith) (omega (arith, c.requires.0)))

pub returns-else-not-x-2 : goal.returns-else-not-x-2
returns-else-not-x-2 c =
    let passed : c.loop-i.i ≡ c.args.count / 2 = omega arith in
    digits_laid _ _ _ _ _ _ (digit_high _ _ _ _ _ _ (rw passed at c.loop-i.invariant.1) (omega (arith, c.requires.0)) (omega arith)) (omega arith)
    (sym (not-false _ c.if-not-x-2.false-raw) ∙ decided_last _ _ _ (rw passed at c.loop-i.invariant.0) (omega arith) (omega (arith, c.requires.0)))

pub returns-else-pairs-count : goal.returns-else-pairs-count
returns-else-pairs-count c = let u = c.loop-i in digits_laid _ _ _ _ _ _ u.invariant.1 (omega arith) (decided_all _ _ _ u.invariant.0 (omega (arith, c.requires.0)))
