-- The front, then the items, by a buffer with room for one attribute. Assumes nothing.
use Rattle.std.proofs.lemmas.Result.{err_from_is_err_and}
use Rattle.writing.proofs.Whole.{judged_front, judged_refused}
use Rattle.writing.proofs.judge.Goals as goal

pub returns-in_err-front_of : goal.returns-in_err-front_of
returns-in_err-front_of c =
    let p = err_from_is_err_and c.from_residual.result c.from_residual.ensures.1 in
    rw (p.1, p.2) (judged_refused _ _ (judged_front _ _ c.front_of.ensures _ c.in_err-front_of.was))
