-- What the kept octets decide. Assumes nothing.
use Rattle.printing.proofs.Shown.{start_refused}
use Rattle.printing.proofs.put_start.Goals as goal

pub returns-in-Some : goal.returns-in-Some
returns-in-Some c = start_refused _ _ c.judge_start.ensures c.in-Some.is _ c.refusal.ensures c.put_text-in-Some.ensures
