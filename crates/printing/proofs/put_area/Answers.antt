-- Kind and flags, and the area's digits behind them. Assumes nothing.
use native.Mathlib.Omega.{arith}
use mathlib.Core.Path.{ap}
use lib.ListN.{length}
use Rattle.printing.proofs.Pieces.{text_shown, area_there, area_not}
use Rattle.printing.proofs.put_area.Goals as goal

pub returns-then-out-area : goal.returns-then-out-area
returns-then-out-area c = let a = c.args in area_not a.kind a.flags _ _ (omega arith)

pub returns-then-out-n : goal.returns-then-out-n
returns-then-out-n c = let a = c.args in area_not a.kind a.flags _ _ (omega (arith, ap length (text_shown _ _ c.kind_flags-front.ensures), ap length c.as_slice-at.ensures))

pub returns : goal.returns
returns c =
    let a = c.args in
    area_there a.kind a.flags _ _ _ _ _ _ _ _ (text_shown _ _ c.kind_flags-front.ensures) (ap length c.as_slice-at.ensures) (omega arith) (omega arith) c.put_text.ensures c.lay_hex.ensures
