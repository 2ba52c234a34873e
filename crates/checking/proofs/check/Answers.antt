-- `checking::check` meets its contract. Assumes nothing.
use Rattle.std.proofs.lemmas.Result.{err_from_is_err_and}
use Rattle.area.proofs.Arriving.{refused_first}
use Rattle.checking.proofs.Whole.{refused_checked}
use Rattle.checking.proofs.check.Goals as goal

pub returns-in_err-arrive : goal.returns-in_err-arrive
returns-in_err-arrive c =
    let p = err_from_is_err_and c.from_residual.result c.from_residual.ensures.1 in
    rw (p.1, p.2) (refused_checked _ _ _ _ (refused_first _ _ _ _ c.arrive.ensures _ c.in_err-arrive.was))
