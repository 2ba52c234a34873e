-- The status is that of what is laid, over a room of zeros.
use Rattle.gir_read.proofs.ReadingJob.print.Goals as goal

pub returns : goal.returns
returns c = (c.read-n.result, c.read-n.new.out, c.read-n.ensures, c.status_of.ensures)
