-- A word that is the argument's text is no longer than there was room for.
use lib.Dec.{T}
use Rattle.std.proofs.Common.{◌≡◌, ◌≤◌, ℕ, List, Bool, length, IsTrue, rules, arith, ap, sym, subst, ◌∙◌}
use Rattle.meaning.specs.Octets.{same}
use Rattle.meaning.proofs.Tests.{same_one}
use Rattle.octets.specs.Parts.{part_of}
use Rattle.octets.proofs.Parts.{part_length}
use Rattle.streams.proofs.is_word.Goals as goal

within_room : (text part word : List ℕ) (n : ℕ) (r : Bool) → part ≡ part_of text 0 n → length text ≡ 16 → r ≡ same part word → IsTrue r → length word ≤ 16
within_room text part word n r cut room is t =
    let whole : length part ≡ length word = ap length (same_one part word (subst T (sym t ∙ is) tt)) in
    omega (arith, part_length text 0 n, ap length cut)

pub returns : goal.returns
returns c = λ t. within_room _ _ _ _ _ c.part.ensures (search rules) c.equal.ensures t
