-- The line, with the second number as it is told. Assumes nothing.
use mathlib.Core.Path.{ap}
use Rattle.printing.proofs.Pieces.{put_told}
use Rattle.lines.specs.Lines.{refusal_line}
use Rattle.printing.specs.Printed.{refusal_told}
use Rattle.printing.proofs.put_refusal.Goals as goal

pub returns : goal.returns
unfolding refusal_told
returns c =
    let a = c.args in
    put_told a.all a.refusal.number a.refusal.second _ _ _ _ _ c.refusal.ensures
    (ap (refusal_line a.refusal.number) c.second_told-second.ensures) c.put_text.ensures
