-- The status is that of what is laid, over a room of zeros.
use Rattle.std.proofs.Common.{◌≡◌, ℕ, List, subst}
use Rattle.lines.specs.Lines.{StartLaid}
use Rattle.gir_check.proofs.CheckingJob.print.Goals as goal

over_zeros : (text room zeros out : List ℕ) (n : ℕ) → room ≡ zeros → StartLaid text room n out → StartLaid text zeros n out
over_zeros text room zeros out n same laid = subst (λ d. StartLaid text d n out) same laid

pub returns : goal.returns
returns c = (c.check-n.result, c.check-n.new.out, over_zeros _ _ _ _ _ c.zeros-out.ensures c.check-n.ensures, c.status_of.ensures)
