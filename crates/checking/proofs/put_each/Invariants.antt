-- `checking::put_each` meets its contract: the loop has laid what the numbers before the index give. Assumes nothing.
use Rattle.std.proofs.Common.{◌≡◌, ℕ, ◌+◌, ◌≤◌, length}
use Rattle.meaning.specs.Listing.{Candidate}
use Rattle.checking.specs.Lists.{Tested}
use Rattle.checking.proofs.Laying.{Laying}
use Rattle.checking.proofs.put_each.Given as goal

abbrev pub invariant-loop-number : goal.invariant-loop-number
invariant-loop-number g l =
    record {
      few : l.written ≤ l.at + l.number-index;
      kept : length l.list ≡ length l.initial.list;
      laying :
          (by : ℕ → Candidate) → Tested (goal.F-post g l.fn.stands) by l.fn.numbers l.place l.rule
          → Laying by l.fn.numbers l.initial.list l.at l.number-index l.written l.list;
    }
