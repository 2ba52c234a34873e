-- Too few octets, or the mark and the version. Assumes nothing.
use native.Mathlib.Omega.{arith}
use lib.ListN.{length}
use borrow.Author.Tests.{le-leb}
use Rattle.meaning.specs.Octets.{octets_of}
use Rattle.meaning.specs.Sheet.{marked}
use Rattle.writing.proofs.Putting.{unmarked}
use Rattle.writing.proofs.is_marked.Goals as goal

pub returns-then-sheet-lt9 : goal.returns-then-sheet-lt9
returns-then-sheet-lt9 c = unmarked _ (omega arith)

pub returns : goal.returns
unfolding marked octets_of
returns c = rw (le-leb 9 (length c.args.sheet.now) (omega arith)) c.equal.ensures
