-- `checking::barred` meets its contract. Assumes nothing.
use Rattle.checking.proofs.Rules.{barred_plain, low_code, barred_11, barred_early, barred_late}
use Rattle.checking.proofs.Message.barred.Goals as goal

pub returns-then-code-lt2 : goal.returns-then-code-lt2
returns-then-code-lt2 c =
    barred_plain _ _ _ _ c.args.self.now.known c.args.self.now.row c.if-number-lt256.true (low_code _ _ c.if-code-lt2.true)

pub returns-then-number-lt256 : goal.returns-then-number-lt256
returns-then-number-lt256 c =
    barred_plain _ _ _ _ c.args.self.now.known c.args.self.now.row c.if-number-lt256.true c.code_bars.ensures

pub returns-then-number-eq-STOP_INDICATOR : goal.returns-then-number-eq-STOP_INDICATOR
returns-then-number-eq-STOP_INDICATOR c = barred_11 _ _ c.if-number-eq-STOP_INDICATOR.true

pub returns-then-self-lt4 : goal.returns-then-self-lt4
returns-then-self-lt4 c = barred_early _ _ c.if-number-lt256.false c.if-number-eq-STOP_INDICATOR.false c.if-self-lt4.true

pub returns : goal.returns
returns c =
    barred_late _ _ c.if-number-lt256.false c.if-number-eq-STOP_INDICATOR.false _ c.if-self-lt4.false
    c.is_listed_3gpp.ensures
