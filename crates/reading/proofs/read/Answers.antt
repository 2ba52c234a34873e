-- `reading::read` meets its contract. Assumes nothing.
use Rattle.std.proofs.lemmas.Result.{err_from_is_err_and}
use mathlib.Core.Path.{sym, ◌∙◌}
use native.Mathlib.Omega.{arith}
use Rattle.area.proofs.Arriving.{refused_first}
use Rattle.reading.proofs.Whole.{refused_read, arrived_short}
use Rattle.reading.proofs.read.Goals as goal

pub returns-in_err-arrive : goal.returns-in_err-arrive
returns-in_err-arrive c =
    let p = err_from_is_err_and c.from_residual.result c.from_residual.ensures.1 in
    rw (p.1, p.2) (refused_read _ _ _ _ _ (refused_first _ _ _ _ c.arrive.ensures _ c.in_err-arrive.was))

pub read_by-requires-2 : goal.read_by-requires-2
read_by-requires-2 c =
    let fit = sym c.arrive.ensures ∙ c.in_ok-arrive.was in
    (fit, omega (arith, arrived_short _ _ c.args.area.now fit), omega arith)
