-- What the judgement tells. Assumes nothing.
use Rattle.writing.specs.Starts.{filled}
use Rattle.writing.proofs.Starts.{judged_writable, judged_refusal, filled_none}
use Rattle.writing.proofs.is_filled.Goals as goal

pub returns-in-Ok : goal.returns-in-Ok
returns-in-Ok c = filled_none _ (judged_writable _ _ c.judge.ensures c.in-Ok.is)

pub returns-in-Err : goal.returns-in-Err
unfolding filled
returns-in-Err c =
    rw (judged_refusal _ _ c.judge.ensures c.in-Err.is)
