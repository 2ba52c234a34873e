-- The status is that of what is laid, over a room of zeros.
use Rattle.gir_write.proofs.WritingJob.print.Goals as goal

pub returns : goal.returns
returns c = (c.write-n.result, c.write-n.new.out, c.write-n.ensures, c.status_of.ensures)
