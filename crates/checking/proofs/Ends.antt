-- What the end breaks: the row of the kind and the numbers noted say what the lines of rules 5 to 7 say. Assumes nothing.
use mathlib.Core.Path.{◌≡◌, refl, sym, ap, ap₂, ◌∙◌}
use mathlib.Core.Logic.{inl, inr, ⊎_elim}
use mathlib.Core.Bool.{Bool, false, not, ◌&&◌, ◌||◌, and-false, or-false}
use mathlib.Core.List.{List, [], ◌∷◌, ◌++◌, map}
use Prim.Native.Nat.{ℕ, ◌<◌}
use native.Mathlib.Omega.{arith}
use lib.Dec.{eqb, ltb, eqb→eq, ltb→lt}
use borrow.Author.Tests.{lt-ltb, ne_eqb}
use Rattle.meaning.specs.Octets.{is_in}
use Rattle.meaning.specs.Jobs.{Context}
use Rattle.meaning.specs.Framing.{gpp}
use Rattle.meaning.specs.Presence.{conditional}
use Rattle.meaning.specs.Codes.{code_demands}
use Rattle.meaning.specs.Breaches.{Among, entry}
use Rattle.meaning.specs.Listing.{demandable, wantable, lacking, wants, wanting, at_end}
use Rattle.meaning.proofs.Tests.{either, all_at}
use Rattle.meaning.proofs.Presence.{code_demands_lem, code_wants_lem}
use Rattle.checking.specs.Table.{Known, Row}
use Rattle.checking.specs.Lists.{Notes, lacks_by, wanted_by, wants_by, end_by}
use Rattle.checking.proofs.Rows.{known_kind}

-- two rules that say the same of each of a list
map_same : {A : Type 0} (f g : ℕ → A) (l : List ℕ) → ((n : ℕ) → Among n l → f n ≡ g n) → map f l ≡ map g l
map_same f g [] h = refl
map_same f g (n ∷ l) h = ap₂ ◌∷◌ (h n (inl refl)) (map_same f g l (λ m a. h m (inr a)))

-- by flags alone nothing of 3GPP is wanted
flags_plain : (c : Context) → conditional c (gpp 3) ≡ false
unfolding conditional
flags_plain c = simp and-false

module _ (c : Context) (size : ℕ) (codes : List ℕ) (seen : List Bool) (numbers : List ℕ) (k : Known c.kind) (row : Row c codes)
    (s : Notes seen numbers) where
  -- rule 6 for a number
  lacks_meant : (n : ℕ) → n < 256 → lacks_by codes seen size n ≡ lacking c size numbers n
  lacks_meant n h =
      ap (λ (b : Bool). record { key = entry size 6 n; stands = b })
      (ap₂ (λ (code : ℕ) (t : Bool). code_demands code && not t) (row.says n h) (s.says n (omega arith))
      ∙ ap (λ (b : Bool). b && not (is_in n numbers)) (code_demands_lem c n (known_kind c.kind k) h))

  -- what rule 7 asks of a number: a plain one, and 3GPP 3
  plain_meant : (n : ℕ) → n < 256 → wanted_by c codes seen n ≡ wants c numbers n
  unfolding wanted_by wants
  plain_meant n h =
      rw (lt-ltb n 256 h, row.says n h, s.says 32 (omega arith), ne_eqb n (gpp 3) (λ e. omega arith))
      (code_wants_lem c n (known_kind c.kind k) h (is_in 32 numbers) ∙ ap (λ (b : Bool). conditional c n || b) (sym (or-false _)))

  protocol_meant : wanted_by c codes seen (gpp 3) ≡ wants c numbers (gpp 3)
  unfolding wanted_by wants
  protocol_meant = rw (s.says 7 (omega arith), flags_plain c)

  wanted_meant : (n : ℕ) → Among n wantable → wanted_by c codes seen n ≡ wants c numbers n
  wanted_meant n a =
      ⊎_elim (λ t. plain_meant n (ltb→lt n 256 t)) (λ t. rw (eqb→eq n (gpp 3) t) protocol_meant)
      (either (ltb n 256) (eqb n (gpp 3)) (all_at (λ m. ltb m 256 || eqb m (gpp 3)) wantable tt n a))

  wants_meant : (n : ℕ) → Among n wantable → wants_by c codes seen size n ≡ wanting c size numbers n
  wants_meant n a =
      ap₂ (λ (w t : Bool). record { key = entry size 7 n; stands = w && not t }) (wanted_meant n a)
      (s.says n (ltb→lt n 512 (all_at (λ m. ltb m 512) wantable tt n a)))

  -- What the code lays at the end is what the meaning has there.
  pub end_meant : end_by c codes seen size ≡ at_end c size numbers
  unfolding end_by at_end
  end_meant =
      ap₂ ◌∷◌
      (ap₂ (λ (a b : Bool). record { key = entry size 5 3; stands = eqb c.kind 1 && (a && b) }) (s.says 2 (omega arith))
      (s.says 3 (omega arith)))
      (ap₂ ◌++◌
      (map_same (lacks_by codes seen size) (lacking c size numbers) demandable
      (λ n a. lacks_meant n (ltb→lt n 256 (all_at (λ m. ltb m 256) demandable tt n a))))
      (map_same (wants_by c codes seen size) (wanting c size numbers) wantable wants_meant))
