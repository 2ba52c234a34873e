-- The eight octets are written behind those before them. Assumes nothing.
use mathlib.Core.Path.{refl}
use native.Mathlib.Nat.{add-zero}
use native.Mathlib.Omega.{arith}
use Rattle.meaning.specs.Octets.{pack}
use Rattle.octets.specs.DigitStrings.{halves}
use Rattle.octets.proofs.Parts.{part_placed}
use Rattle.octets.proofs.Overs.{overlaid_part}
use Rattle.octets.proofs.Halves.{halves_packed}
use Rattle.octets.proofs.pack_eight.Goals as goal

pub lay_at-requires : goal.lay_at-requires
lay_at-requires c = let r = c.requires.0.room in omega (arith, halves_packed c.args.text.now)

pub returns : goal.returns
returns c =
    let room = halves_packed c.args.text.now in
    overlaid_part _ _ _ _ _ _ 8 _ c.requires.0 refl (omega (arith, room))
    (rw (c.two_halves.ensures, c.two_halves-2.ensures, c.two_halves-3.ensures, c.two_halves-4.ensures, c.two_halves-5.ensures, c.two_halves-6.ensures, c.two_halves-7.ensures, c.two_halves-8.ensures) (rw (add-zero c.args.at) at (part_placed (pack (halves c.args.text.now)) c.args.at 8 (omega (arith, room)))))
    c.lay_at.ensures
