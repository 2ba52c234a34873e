-- `area::number_at` meets its contract. Assumes nothing.
use mathlib.Core.Path.{sym, ap, ◌∙◌}
use Rattle.meaning.specs.Framing.{gpp}
use Rattle.area.proofs.Carrying.{number_plain, number_gpp}
use Rattle.area.proofs.number_at.Goals as goal

pub returns-then-t-ne26 : goal.returns-then-t-ne26
returns-then-t-ne26 c = c.plain.ensures ∙ number_plain _ _ c.if-t-ne26.true

pub returns : goal.returns
returns c =
    c.gpp.ensures ∙ ap gpp c.octet_at.ensures
    ∙ number_gpp _ _ c.if-t-ne26.false (sym c.u32_at-vendor.ensures ∙ c.if-vendor-ne-VENDOR_3GPP.false)
