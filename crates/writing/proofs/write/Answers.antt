-- The front; then the area, made in the short buffer or in the long one, is handed over. Assumes nothing.
use Rattle.std.proofs.lemmas.Result.{err_from_is_err_and}
use mathlib.Core.Path.{sym, ◌∙◌}
use native.Mathlib.Omega.{arith}
use Rattle.writing.proofs.Whole.{judged_front, refused_wrote, size_short, written, made_refused}
use Rattle.writing.proofs.write.Goals as goal

pub returns-in_err-front_of : goal.returns-in_err-front_of
returns-in_err-front_of c =
    let p = err_from_is_err_and c.from_residual.result c.from_residual.ensures.1 in
    rw (p.1, p.2) (refused_wrote _ _ _ (judged_front _ _ c.front_of.ensures _ c.in_err-front_of.was))

pub returns-in_err-written : goal.returns-in_err-written
returns-in_err-written c =
    let p = err_from_is_err_and c.from_residual-in_err-written.result c.from_residual-in_err-written.ensures.1 in
    rw (p.1, p.2) (made_refused _ _ _ _ c.make.ensures _ c.in_err-written.was)

pub returns-then-written-le-SHORT_AREA : goal.returns-then-written-le-SHORT_AREA
returns-then-written-le-SHORT_AREA c =
    written _ _ _ _ c.make.ensures _ c.in_ok-written.was (omega (arith, c.if-written-le-SHORT_AREA.true, c.make.auto.buf)) _ _ c.hand_over.ensures

pub returns-in_err-written-2 : goal.returns-in_err-written-2
returns-in_err-written-2 c =
    let p = err_from_is_err_and c.from_residual-in_err-written-2.result c.from_residual-in_err-written-2.ensures.1 in
    rw (p.1, p.2) (made_refused _ _ _ _ c.make-2.ensures _ c.in_err-written-2.was)

pub hand_over-requires-2 : goal.hand_over-requires-2
hand_over-requires-2 c =
    omega (arith, size_short _ _ (sym c.in_ok-written-2.was ∙ c.make-2.ensures.says), c.make-2.auto.buf)

pub returns : goal.returns
returns c =
    written _ _ _ _ c.make-2.ensures _ c.in_ok-written-2.was
    (omega (arith, size_short _ _ (sym c.in_ok-written-2.was ∙ c.make-2.ensures.says), c.make-2.auto.buf)) _ _ c.hand_over-2.ensures
