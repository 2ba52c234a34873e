-- A law for each form. Assumes nothing.
use borrow.Author.Tests.{not-true, not-false}
use mathlib.Core.Path.{sym, ◌∙◌}
use native.Mathlib.Omega.{arith}
use lib.Seq.{length-take-le}
use Rattle.meaning.proofs.Octets.{octets_take}
use Rattle.octets.proofs.Parts.{slice_octets}
use Rattle.writing.proofs.Valuing.{number_valued, address_valued, digits_valued, text_none, text_valued, profile_valued, octet_none}
use Rattle.writing.proofs.Valuing.{octet_some, octet_valued, raw_valued}
use Rattle.writing.proofs.put_value.Goals as goal

pub returns-then-code-size : goal.returns-then-code-size
returns-then-code-size c = let m = c.in-5.is in
    rw m (text_none _ _ _ (c.requires.0) _ _ _ (rw m at (length-take-le _ _ c.requires.1.1.0 ∙ (c.requires.1.0))) (let a = c.args in octets_take a.size a.rest.now (slice_octets a.rest.now c.shared_slice_known-1.given)) (rw (rw m at (c.requires.1.0)) at c.if-code-size.true) _)

pub returns-then-not-is_octet : goal.returns-then-not-is_octet
returns-then-not-is_octet c = let m = c.in-7.is in
    rw m (octet_none _ _ _ (c.requires.0) _ _ _ (rw m at (length-take-le _ _ c.requires.1.1.0 ∙ (c.requires.1.0))) (sym c.is_octet.ensures ∙ not-true _ c.if-not-is_octet.true-raw) _)

pub bounds-stored-0 : goal.bounds-stored-0
bounds-stored-0 c = omega (arith, octet_some _ _ _ (sym c.is_octet.ensures ∙ not-false _ c.if-not-is_octet.false-raw))

pub returns-in-2 : goal.returns-in-2
returns-in-2 c = let m = c.in-2.is in
    rw m (number_valued _ _ _ (c.requires.0) _ _ _ (rw m at (length-take-le _ _ c.requires.1.1.0 ∙ (c.requires.1.0))) _ _ c.put_fours.ensures)

pub returns-in-3 : goal.returns-in-3
returns-in-3 c = let m = c.in-3.is in
    rw m (address_valued _ _ _ (c.requires.0) _ _ _ (rw m at (length-take-le _ _ c.requires.1.1.0 ∙ (c.requires.1.0))) _ _ c.put_fours-in-3.ensures)

pub returns-in-4 : goal.returns-in-4
returns-in-4 c = rw c.in-4.is (digits_valued _ _ _ (c.requires.0) _ _ _ _ _ c.put_packed.ensures)

pub returns-else-code-size : goal.returns-else-code-size
returns-else-code-size c = let m = c.in-5.is in
    rw m (text_valued _ _ _ (c.requires.0) _ _ _ (rw m at (length-take-le _ _ c.requires.1.1.0 ∙ (c.requires.1.0))) (let a = c.args in octets_take a.size a.rest.now (slice_octets a.rest.now c.shared_slice_known-1.given)) (rw (rw m at (c.requires.1.0)) at c.if-code-size.false) _ (omega (arith, c.requires.1.1.1)) c.unpack_at.ensures.holds)

pub returns-in-6 : goal.returns-in-6
returns-in-6 c = let m = c.in-6.is in
    rw m (profile_valued _ _ _ (c.requires.0) _ _ _ (rw m at (length-take-le _ _ c.requires.1.1.0 ∙ (c.requires.1.0))) _ _ c.put_qos.ensures)

pub returns-else-not-is_octet : goal.returns-else-not-is_octet
returns-else-not-is_octet c = let m = c.in-7.is in
    rw m (octet_valued _ _ _ (c.requires.0) _ _ _ (rw m at (length-take-le _ _ c.requires.1.1.0 ∙ (c.requires.1.0))) (sym c.is_octet.ensures ∙ not-false _ c.if-not-is_octet.false-raw) _ c.octet_text.ensures (omega (arith, c.requires.1.1.1)))

pub returns-in_default : goal.returns-in_default
returns-in_default c = raw_valued _ _ _ (c.requires.0) _ _ _ _ c.in_default.in_default-own.rest _ _ c.put_raw.ensures
