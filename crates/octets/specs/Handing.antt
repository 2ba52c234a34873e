-- What is handed over into a lent buffer: octets, or a refusal where the buffer has no room for them. Assumes nothing.
use Rattle.std.specs.Prelude.{ℕ, List, length}
use Rattle.meaning.specs.Refusals.{too_short}
use Rattle.meaning.specs.Answers.{Answer, unless, Promise}

-- 9, 25: the octets s, or the refusal with this number where they are longer than the room
unfoldable pub handing : (number : ℕ) (s : List ℕ) (room : ℕ) → Answer (List ℕ)
handing n s room = unless (too_short n (length s) room) s

-- what is said of them, and what the lent buffer holds then
abbrev pub Handed : {X : Type 0} (say_of : Answer (List ℕ) → X) (number : ℕ) (s buffer : List ℕ) (said : X) (held : List ℕ) → Type 0
Handed say_of n s d said held = Promise (say_of (handing n s (length d))) (handing n s (length d)) d said held
