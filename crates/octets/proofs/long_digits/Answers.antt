-- The first eight and the last eight cover the text; where they are digits, the one number holds them all. Assumes nothing.
use borrow.Author.Rules.{rules}
use mathlib.Core.Path.{sym, ap, ◌∙◌}
use borrow.Author.Tests.{eq-eqb, ne_eqb}
use Rattle.octets.specs.DigitStrings.{turned_of}
use Rattle.octets.proofs.Eights.{or_zero}
use Rattle.octets.proofs.Gathering.{gathered_other, gathered_fits, long_test, long_gathered}
use Rattle.octets.proofs.long_digits.Goals as goal

pub returns-then-beyond-ne0 : goal.returns-then-beyond-ne0
returns-then-beyond-ne0 c = sym (gathered_other _ (sym (long_test c.args.text.now _ _ (search rules) (search rules) (c.turned-a.ensures ∙ ap turned_of c.eight_at.ensures) (c.turned-b.ensures ∙ ap turned_of c.eight_at-2.ensures) c.beyond.result c.beyond-2.result c.beyond.ensures c.beyond-2.ensures) ∙ ne_eqb _ 0 c.if-beyond-ne0.true))

pub in_four-requires : goal.in_four-requires
in_four-requires c = sym c.beyond-2.ensures ∙ eq-eqb _ 0 (or_zero c.beyond.result c.beyond-2.result c.if-beyond-ne0.false).1

pub in_four-requires-2 : goal.in_four-requires-2
in_four-requires-2 c = sym c.beyond.ensures ∙ eq-eqb _ 0 (or_zero c.beyond.result c.beyond-2.result c.if-beyond-ne0.false).0

pub returns : goal.returns
returns c = long_gathered c.args.text.now _ _ (search rules) (search rules) (c.turned-a.ensures ∙ ap turned_of c.eight_at.ensures) (c.turned-b.ensures ∙ ap turned_of c.eight_at-2.ensures) (sym (long_test c.args.text.now _ _ (search rules) (search rules) (c.turned-a.ensures ∙ ap turned_of c.eight_at.ensures) (c.turned-b.ensures ∙ ap turned_of c.eight_at-2.ensures) c.beyond.result c.beyond-2.result c.beyond.ensures c.beyond-2.ensures) ∙ eq-eqb _ 0 c.if-beyond-ne0.false) _ _ c.in_four-2.ensures c.in_four.ensures

pub overflow_add-result-2 : goal.overflow_add-result-2
overflow_add-result-2 c = record { fits = rw (returns c) (gathered_fits c.args.text.now (search rules) (sym (long_test c.args.text.now _ _ (search rules) (search rules) (c.turned-a.ensures ∙ ap turned_of c.eight_at.ensures) (c.turned-b.ensures ∙ ap turned_of c.eight_at-2.ensures) c.beyond.result c.beyond-2.result c.beyond.ensures c.beyond-2.ensures) ∙ eq-eqb _ 0 c.if-beyond-ne0.false)) }
