-- The library's number, taken apart again. Assumes nothing.
use mathlib.Core.Path.{sym, ◌∙◌}
use Rattle.std.proofs.lemmas.Nat.{be_bytes_8}
use Rattle.octets.proofs.Numbers.{high_first}
use Rattle.octets.proofs.number_of_eight.Goals as goal

pub returns : goal.returns
returns c = sym (high_first 8 _) ∙ be_bytes_8 _ _ c.told-eight c.fits-eight c.from_be_bytes.ensures
