-- The four pieces of the name are laid one behind the other. Assumes nothing.
use native.Mathlib.Omega.{arith}
use Rattle.filing.proofs.Names.{not_named, named_whole, laid_in_pieces}
use Rattle.filing.proofs.temporary.Goals as goal

pub returns-then-name-lt9 : goal.returns-then-name-lt9
returns-then-name-lt9 c = not_named _ _ (omega arith)

pub returns : goal.returns
returns c =
    let a = c.args in
    named_whole _ _ _ (omega arith)
    (laid_in_pieces a.out.now _ _ a.name.now _ _ _ _ (cc) (cc) (omega arith) c.copy_at.ensures.holds c.copy_at-2.ensures.holds
    c.copy_at-3.ensures.holds c.copy_at-4.ensures.holds)
