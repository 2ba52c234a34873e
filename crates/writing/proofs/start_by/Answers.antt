-- By the number of the refusal. Assumes nothing.
use mathlib.Core.Path.{ap}
use native.Mathlib.Omega.{arith}
use Rattle.std.specs.Prelude.{Some}
use Rattle.writing.proofs.Starts.{start_filled, start_open}
use Rattle.writing.proofs.start_by.Goals as goal

pub returns-then-is_filled : goal.returns-then-is_filled
returns-then-is_filled c =
    let a = c.args in
    start_filled a.kept.now a.refusal.number a.refusal.second _ (ap Some c.broken-then-is_filled.ensures) c.part.ensures c.is_filled.ensures c.if-is_filled.true (omega arith)

pub returns-then-refusal-eq22 : goal.returns-then-refusal-eq22
returns-then-refusal-eq22 c =
    let a = c.args in
    start_open a.kept.now a.refusal.number a.refusal.second _ c.part.ensures c.is_filled.ensures c.if-is_filled.false (omega arith)
