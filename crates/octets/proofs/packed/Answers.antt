-- Each octet is the pair of two digits. Assumes nothing.
use borrow.Author.Rules.{rules}
use Rattle.meaning.specs.Octets.{pack}
use Rattle.octets.specs.DigitStrings.{held_of}
use Rattle.octets.proofs.DigitStrings.{eight_placed}
use Rattle.octets.proofs.packed.Goals as goal

pub returns : goal.returns
unfolding held_of pack
returns c =
    let a = c.args in
    rw (c.pair.ensures, c.pair-2.ensures, c.pair-3.ensures, c.pair-4.ensures, c.pair-5.ensures, c.pair-6.ensures, c.pair-7.ensures, c.pair-8.ensures) (eight_placed a.d (search rules))
