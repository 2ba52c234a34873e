-- By what the kept octets are judged. Assumes nothing.
use mathlib.Core.Path.{ap}
use Rattle.std.specs.Prelude.{Some}
use Rattle.writing.proofs.Starts.{judged_writable, judged_refusal, start_is}
use Rattle.writing.proofs.judge_start.Goals as goal

pub returns-in-Ok : goal.returns-in-Ok
returns-in-Ok c =
    start_is _ _ (judged_writable _ _ c.judge.ensures c.in-Ok.is) (ap Some c.broken.ensures)

pub returns-in-Err : goal.returns-in-Err
returns-in-Err c =
    start_is _ _ (judged_refusal _ _ c.judge.ensures c.in-Err.is) c.start_by.ensures
