-- The items, and 24. Assumes nothing.
use Rattle.std.proofs.lemmas.Result.{err_from_is_err_and}
use mathlib.Core.Path.{refl}
use native.Mathlib.Omega.{arith}
use Rattle.writing.proofs.Whole.{front_nine, items_refused, area_long, area_made}
use Rattle.writing.proofs.make.Goals as goal

pub transcribe-requires : goal.transcribe-requires
transcribe-requires c = (front_nine _ _ refl c.requires.0, c.requires.1)

pub returns-in_err-length : goal.returns-in_err-length
returns-in_err-length c =
    let p = err_from_is_err_and c.from_residual.result c.from_residual.ensures.1 in
    rw (p.1, p.2) (items_refused _ _ refl c.requires.0 _ _ c.transcribe.ensures _ c.in_err-length.was)

pub returns-then-length-gt-LONGEST : goal.returns-then-length-gt-LONGEST
returns-then-length-gt-LONGEST c = area_long _ _ refl c.requires.0 _ _ c.transcribe.ensures _ c.in_ok-length.was (omega (arith, c.if-length-gt-LONGEST.true))

pub bounds-sheet-5 : goal.bounds-sheet-5
bounds-sheet-5 c = omega (arith, front_nine _ _ refl c.requires.0)

pub bounds-sheet-6 : goal.bounds-sheet-6
bounds-sheet-6 c = omega (arith, front_nine _ _ refl c.requires.0)

pub returns : goal.returns
returns c = area_made _ _ refl c.requires.0 _ _ c.transcribe.ensures _ c.in_ok-length.was (omega (arith, c.if-length-gt-LONGEST.false))
