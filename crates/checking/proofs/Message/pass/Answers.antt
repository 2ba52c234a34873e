-- `checking::pass` meets its contract. Assumes nothing.
use Rattle.std.proofs.lemmas.Result.{err_from_is_err_and}
use native.Mathlib.Omega.{arith}
use Rattle.checking.proofs.Passes.{notes_none}
use Rattle.checking.proofs.Whole.{pass_laid, along_whole, along_broken}
use Rattle.checking.proofs.Message.pass.Goals as goal

pub along-requires : goal.along-requires
along-requires c = (c.requires, notes_none)

pub returns-in_err-at : goal.returns-in_err-at
returns-in_err-at c =
    let p = err_from_is_err_and c.from_residual.result c.from_residual.ensures.1 in
    rw (p.1, p.2) (along_broken _ _ _ _ _ _ c.along.ensures _ c.in_err-at.was)

pub at_end-requires : goal.at_end-requires
at_end-requires c =
    let a = along_whole _ _ _ _ _ _ c.along.ensures _ c.in_ok-at.was in
    (omega (arith, a.few, c.requires), c.requires)

pub returns : goal.returns
returns c =
    let m = c.args.self.now in
    pass_laid _ _ _ _ (record { short = c.requires; known = m.known; row = m.row }) _ _ _ _ _ (along_whole _ _ _ _ _ _ c.along.ensures _ c.in_ok-at.was) c.at_end.ensures
