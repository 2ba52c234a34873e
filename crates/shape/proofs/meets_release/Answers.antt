-- Each octet before the digits, and then a test of each digit. Assumes nothing.
use mathlib.Core.Path.{ap, ◌∙◌}
use Rattle.meaning.specs.Octets.{all, is_hex}
use Rattle.shape.proofs.Meeting.{release_hex}
use Rattle.shape.proofs.meets_release.Goals as goal

pub returns : goal.returns
returns c =
    let a = c.args in
    c.all_hex.ensures ∙ ap (all is_hex) c.part.ensures
    ∙ release_hex 57 a.second a.count a.value.now c.if-value-count.false c.if-value-ne57.false c.if-value-second.false c.if-value-ne45.false
