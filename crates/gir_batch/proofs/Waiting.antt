-- What is laid over the start of a room is no longer than the room.
use Rattle.std.proofs.Common.{◌≡◌, ◌≤◌, ◌+◌, ℕ, List, length, leb, cond, arith}
use Rattle.std.proofs.lemmas.Bool.Decides.{nat_tests}
use Rattle.lines.specs.Lines.{StartLaid}
use Rattle.octets.specs.Parts.{fits_at}

told_within : (room size said : ℕ) → said ≡ cond (leb (0 + size) room) size 0 → said ≤ room
told_within room size said says = grind (arith, nat_tests)

pub laid_within : (s d held : List ℕ) (said : ℕ) → StartLaid s d said held → said ≤ length d
unfolding fits_at
laid_within s d held said laid = told_within (length d) (length s) said laid.says
