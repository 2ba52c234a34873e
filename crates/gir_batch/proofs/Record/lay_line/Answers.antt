-- A line that is laid is no longer than its room, which keeps its length.
use Rattle.std.proofs.Common.{arith}
use Rattle.gir_batch.proofs.Waiting.{laid_within}
use Rattle.gir_batch.proofs.Record.lay_line.Goals as goal

pub returns : goal.returns
returns c = let line = laid_within _ _ _ _ c.record.ensures.laid in omega arith
