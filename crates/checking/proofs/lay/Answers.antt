-- `checking::lay` meets its contract. Assumes nothing.
use Rattle.std.proofs.lemmas.Result.{err_from_is_err_and}
use mathlib.Core.Path.{sym}
use native.Mathlib.Omega.{arith}
use lib.Seq.{length-take-le}
use Rattle.octets.proofs.Overs.{copied_front}
use Rattle.checking.proofs.Whole.{arrived_ready, framing_refused, too_long, list_few, list_laid}
use Rattle.checking.proofs.lay.Goals as goal

pub pass-requires : goal.pass-requires
pass-requires c = (arrived_ready _ _ c.requires _ c.row_of.ensures).short

pub returns-in_err-needed : goal.returns-in_err-needed
returns-in_err-needed c =
    let p = err_from_is_err_and c.from_residual.result c.from_residual.ensures.1 in
    rw (p.1, p.2) (framing_refused _ _ c.requires _ _ _ _ c.pass.ensures _ c.in_err-needed.was)

pub returns-then-list-needed : goal.returns-then-list-needed
returns-then-list-needed c =
    too_long _ _ c.requires _ _ _ _ c.pass.ensures _
    c.in_ok-needed.was c.if-list-needed.true

pub returns-then-needed-le-FEW : goal.returns-then-needed-le-FEW
returns-then-needed-le-FEW c =
    list_few _ _ c.requires _ _ _ _ c.pass.ensures _
    c.in_ok-needed.was _ c.if-needed-le-FEW.true c.if-list-needed.false
    (copied_front _ _ _ _ (sym (length-take-le _ _ (omega (arith, c.pass.auto.list, c.if-needed-le-FEW.true)))) c.copy_from_slice.ensures.after)

pub pass-requires-2 : goal.pass-requires-2
pass-requires-2 c = (arrived_ready _ _ c.requires _ c.row_of.ensures).short

pub returns : goal.returns
returns c =
    list_laid _ _ c.requires _ _ _ _ c.pass.ensures _
    c.in_ok-needed.was _ _ c.if-list-needed.false c.pass-2.ensures

pub invariant_of-message : goal.invariant_of-message
invariant_of-message c =
    let y = arrived_ready _ _ c.requires _ c.row_of.ensures in
    record { known = y.known; row = y.row }
