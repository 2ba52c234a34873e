-- A code that takes no such digits, octets that are none, or the digits. Assumes nothing.
use borrow.Author.Tests.{not-true, not-false}
use Rattle.octets.proofs.Parts.{slice_octets}
use Rattle.writing.proofs.Valuing.{digits_not_taken, digits_not_packed, digits_packed}
use Rattle.writing.proofs.put_packed.Goals as goal

pub returns-then-not-takes_digits : goal.returns-then-not-takes_digits
returns-then-not-takes_digits c = let l = c.args.stored.now in
    digits_not_taken _ _ _ l _ c.requires.0 (slice_octets l c.shared_slice_known-1.given) _ c.takes_digits.ensures (not-true _ c.if-not-takes_digits.true-raw) _

pub returns-then-not-put_digits : goal.returns-then-not-put_digits
returns-then-not-put_digits c = let l = c.args.stored.now in
    digits_not_packed _ _ _ l _ c.requires.0 (slice_octets l c.shared_slice_known-1.given) _ c.takes_digits.ensures (not-false _ c.if-not-takes_digits.false-raw) _ _ (rw c.from-n.ensures at c.put_digits.ensures) (not-true _ c.if-not-put_digits.true-raw)

pub returns : goal.returns
returns c = let l = c.args.stored.now in
    digits_packed _ _ _ l _ c.requires.0 (slice_octets l c.shared_slice_known-1.given) _ c.takes_digits.ensures (not-false _ c.if-not-takes_digits.false-raw) _ _ (rw c.from-n.ensures at c.put_digits.ensures) (not-false _ c.if-not-put_digits.false-raw) _ c.from-n.ensures
