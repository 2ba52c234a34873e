-- `checking::allowed` meets its contract. Assumes nothing.
use borrow.Author.Rules.{rules}
use mathlib.Core.Path.{◌∙◌}
use Rattle.checking.proofs.Values.{allowed_6, allowed_7, allowed_45, allowed_49}
use Rattle.checking.proofs.Values.{allowed_40, allowed_3gpp_3, allowed_3gpp_11, digit_there, allowed_3gpp_12, allowed_other}
use Rattle.checking.proofs.Message.allowed.Goals as goal

pub bounds-value-0 : goal.bounds-value-0
bounds-value-0 c = digit_there _ _ c.requires c.in-268.is

pub returns-in-6 : goal.returns-in-6
returns-in-6 c = allowed_6 _ _ _ c.requires _ c.u32_at.ensures c.in-6.is

pub returns-in-7 : goal.returns-in-7
returns-in-7 c = allowed_7 _ _ _ c.requires _ c.u32_at-in-7.ensures c.in-7.is

pub returns-in-45 : goal.returns-in-45
returns-in-45 c = allowed_45 _ _ _ c.requires _ c.u32_at-link.ensures c.in-45.is

pub returns-in-49 : goal.returns-in-49
returns-in-49 c = allowed_49 _ _ _ c.requires _ c.u32_at-cause.ensures c.in-49.is

pub returns-in-40 : goal.returns-in-40
returns-in-40 c =
    c.status_allowed.ensures
    ∙ allowed_40 _ _ _ c.requires _ c.u32_at-in-40.ensures c.in-40.is

pub returns-in-259 : goal.returns-in-259
returns-in-259 c = allowed_3gpp_3 _ _ _ c.requires _ c.u32_at-in-259.ensures c.in-259.is

pub returns-in-267 : goal.returns-in-267
returns-in-267 c = allowed_3gpp_11 _ _ _ c.requires _ c.u32_at-in-267.ensures c.in-267.is

pub returns-in-268 : goal.returns-in-268
returns-in-268 c =
    allowed_3gpp_12 _ _ _ c.requires _ c.in-268.is c.digit_value.ensures

pub returns-in_default : goal.returns-in_default
returns-in_default c = allowed_other _ _ _ (search rules)
