-- Laws of digit strings: when a text is one, and that its packed digits are what a sheet stores. Assumes nothing.
use mathlib.Core.Path.{◌≡◌, ap, ◌∙◌}
use mathlib.Core.Bool.{true, false, and-false}
use mathlib.Core.List.{List, [], ◌∷◌}
use Prim.Native.Nat.{ℕ, ◌<◌, ◌≤◌, min}
use native.Mathlib.Omega.{arith}
use borrow.Author.Tests.{le-leb, lt-leb}
use lib.Dec.{T}
use lib.ListN.{length, length-take}
use Rattle.meaning.specs.Octets.{all, is_digit, values, pack, packed_length}
use Rattle.meaning.proofs.Packing.{Halves, values_length, values_halves, digits_hexes}
use Rattle.meaning.proofs.Tests.{passes, is_true}
use Rattle.octets.specs.declared.Digits.{Digits}
use Rattle.octets.specs.DigitStrings.{padded, digits_of, got_of, held_of, eight_of, packed_of}
use Rattle.octets.proofs.Parts.{placed, all_placed}
use Rattle.octets.proofs.Halves.{halves_modulo, held_packed, held_all, padded_length, padded_halves, padded_front}

-- ---- When a text is a digit string

module _ (l : List ℕ) where
  pub got_digits : 1 ≤ length l → length l ≤ 15 → T (all is_digit l) → got_of l ≡ digits_of (values l)
  unfolding got_of
  got_digits a b t = simp (le-leb 1 (length l) a, le-leb (length l) 15 b, is_true (all is_digit l) t)

  -- none of an empty text, nor of one that is too long or has another octet
  pub got_short : length l < 1 → got_of l ≡ digits_of []
  unfolding got_of
  got_short h = simp (lt-leb 1 (length l) h)

  pub got_long : 15 < length l → got_of l ≡ digits_of []
  unfolding got_of
  got_long h = simp (lt-leb (length l) 15 h, and-false)

  pub got_other : all is_digit l ≡ false → got_of l ≡ digits_of []
  unfolding got_of
  got_other e = simp (e, and-false)

  -- So the count tells whether there is a digit string.
  pub got_some : 1 ≤ length l → length l ≤ 15 → all is_digit l ≡ true → (got_of l).len ≡ length l
  unfolding digits_of
  got_some a b e = rw (got_digits a b (passes (all is_digit l) e)) (values_length l)

  pub got_none : all is_digit l ≡ false → (got_of l).len ≡ 0
  unfolding digits_of
  got_none e = rw (got_other e)

-- an empty text is the text of no digits
pub got_whole : (l : List ℕ) → length l ≤ 15 → T (all is_digit l) → got_of l ≡ digits_of (values l)
unfolding values
got_whole [] b t = got_short [] (omega arith)
got_whole (x ∷ l) b t = got_digits (x ∷ l) (omega arith) b t

-- ---- What is packed

pub eight_length : (d : Digits) → length (eight_of d) ≡ 8
unfolding eight_of
eight_length d = held_packed 15 d.octets

pub packed_length_lem : (d : Digits) → length (packed_of d) ≡ packed_length (min d.len 15)
unfolding packed_of
packed_length_lem d = length-take (packed_length (min d.len 15)) (eight_of d) ∙ omega (arith, eight_length d)

-- eight octets, each by the places of its two digits
pub eight_placed : (d : Digits) → length d.octets ≡ 15 → pack (held_of 15 (placed d.octets 0 0 15)) ≡ eight_of d
unfolding eight_of
eight_placed d e = ap (λ (l : List ℕ). pack (held_of 15 l)) (all_placed d.octets 15 e)

-- Of at most fifteen digits the octets are those that a sheet stores: "two to an octet", and 15 beside an odd last one.
pub packed_digits_lem : (l : List ℕ) → length l ≤ 15 → Halves l → packed_of (digits_of l) ≡ pack l
unfolding packed_of eight_of digits_of
packed_digits_lem l few h =
    let n : min (length l) 15 ≡ length l = omega arith in
    let held : held_of 15 (padded 15 15 l) ≡ padded 15 15 l =
    rw (padded_length l 15 few) at (held_all (padded 15 15 l)) ∙ halves_modulo (padded 15 15 l) (padded_halves l 15 few h) in
    rw (n, held) (padded_front l 15 few)

-- So it is with the digits that a text holds.
pub packed_as_stored : (l : List ℕ) → 1 ≤ length l → length l ≤ 15 → T (all is_digit l) → packed_of (got_of l) ≡ pack (values l)
packed_as_stored l some few t = rw (got_digits l some few t) (packed_digits_lem (values l) (omega (arith, values_length l)) (values_halves l (digits_hexes l t)))
