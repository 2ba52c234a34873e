-- The release, the dash, and the digits behind them. Assumes nothing.
use mathlib.Core.Path.{refl}
use Rattle.writing.proofs.Putting.{profile_laid}
use Rattle.writing.proofs.put_profile.Goals as goal

pub returns : goal.returns
returns c = profile_laid _ _ _ _ _ _ _ _ c.digit_text.ensures c.digit_text-2.ensures refl c.requires.0 c.requires.1 c.copy_at.ensures.holds c.unpack_at.ensures.holds
