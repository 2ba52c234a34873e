-- A step a turn, and fewer are left behind each. Assumes nothing.
use Rattle.filing.specs.Runs.{left}
use Rattle.gir_file.proofs.Filing.run.Given as goal

abbrev pub decreases-loop-answer : goal.decreases-loop-answer
decreases-loop-answer l = left l.step
