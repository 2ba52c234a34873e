-- The first four and the last four cover the text; where they are digits, the one number holds them all. Assumes nothing.
use borrow.Author.Rules.{rules}
use mathlib.Core.Path.{sym, ◌∙◌}
use borrow.Author.Tests.{eq-eqb, ne_eqb}
use Rattle.octets.proofs.Parts.{slice_octets}
use Rattle.octets.proofs.Gathering.{gathered_other, gathered_fits, short_test, short_gathered}
use Rattle.octets.proofs.short_digits.Goals as goal

pub returns-then-beyond-ne0 : goal.returns-then-beyond-ne0
returns-then-beyond-ne0 c = sym (gathered_other _ (sym (c.beyond.ensures ∙ short_test c.args.text.now _ _ _ (slice_octets c.args.text.now c.shared_slice_known-1.given) (search rules) (search rules) c.u32_at.ensures c.u32_at-2.ensures c.turned-x.ensures) ∙ ne_eqb _ 0 c.if-beyond-ne0.true))

pub returns : goal.returns
returns c = short_gathered c.args.text.now _ _ _ (slice_octets c.args.text.now c.shared_slice_known-1.given) (search rules) (search rules) c.u32_at.ensures c.u32_at-2.ensures c.turned-x.ensures (sym (c.beyond.ensures ∙ short_test c.args.text.now _ _ _ (slice_octets c.args.text.now c.shared_slice_known-1.given) (search rules) (search rules) c.u32_at.ensures c.u32_at-2.ensures c.turned-x.ensures) ∙ eq-eqb _ 0 c.if-beyond-ne0.false) _ c.in_four-h.ensures

pub overflow_add-result-2 : goal.overflow_add-result-2
overflow_add-result-2 c = record { fits = rw (returns c) (gathered_fits c.args.text.now (search rules) (sym (c.beyond.ensures ∙ short_test c.args.text.now _ _ _ (slice_octets c.args.text.now c.shared_slice_known-1.given) (search rules) (search rules) c.u32_at.ensures c.u32_at-2.ensures c.turned-x.ensures) ∙ eq-eqb _ 0 c.if-beyond-ne0.false)) }
