-- Octets that are handed over into a lent buffer, with room for them and without. Assumes nothing.
use mathlib.Core.Path.{◌≡◌, ◌∙◌}
use mathlib.Core.List.{List}
use Prim.Native.Nat.{ℕ, ◌<◌, ◌≤◌}
use lib.ListN.{length}
use borrow.Author.Tests.{lt-ltb, le-ltb}
use Rattle.meaning.specs.Answers.{Answer, given, refused, over, after}
use Rattle.octets.specs.Handing.{handing, Handed}

module _ {X : Type 0} (say_of : Answer (List ℕ) → X) (n : ℕ) (s d : List ℕ) where
  -- the refusal: nothing was written
  pub handed_not : length d < length s → Handed say_of n s d (say_of (refused n (length s))) d
  unfolding handing after
  handed_not h = let t = lt-ltb (length d) (length s) h in record { says = rw t; holds = rw t }

  -- the octets, over the buffer's start
  pub handed_over : (out : List ℕ) → length s ≤ length d → out ≡ over s d → Handed say_of n s d (say_of (given s)) out
  unfolding handing after
  handed_over out h e = let t = le-ltb (length d) (length s) h in record { says = rw t; holds = e ∙ rw t }
