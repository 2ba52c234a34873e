-- Laws of names: a search from the left, the folder of a path, what a line says and two names are, the temporary file's name in its
-- pieces. Assumes nothing.
use mathlib.Core.Path.{◌≡◌, refl, sym, ap, ◌∙◌}
use mathlib.Core.Bool.{Bool, true, false, cond}
use mathlib.Core.List.{List, [], ◌∷◌, ◌++◌, append_assoc}
use Prim.Native.Nat.{ℕ, suc, ◌+◌, ◌-◌, ◌<◌, ◌≤◌}
use native.Mathlib.Numerals.{add-one}
use native.Mathlib.Omega.{arith}
use borrow.Author.Tests.{le-leb, lt-leb}
use lib.Dec.{T, eqb, ltb}
use lib.ListN.{length, take, drop, get_or, drop_of_length-le, length-drop, length-append}
use lib.Seq.{drop-cons, length-take-le}
use Rattle.octets.specs.Parts.{fits_at, laid_at}
use Rattle.octets.proofs.Overs.{laid_first, laid_behind, laid_none}
use Rattle.meaning.specs.Answers.{over}
use Rattle.std.specs.Prelude.{Option, None, Some}
use Rattle.std.specs.List.{position, position_or_len, list_any}
use Rattle.std.proofs.lemmas.List.Recursion.{is_position_or_len}
use Rattle.std.proofs.lemmas.Bool.Decides.{nat_tests}
use Rattle.filing.specs.Names.{up_to, ends_in_return, pair_by_ends, pair_of, fits, folder_from, folder_length}
use Rattle.filing.specs.Names.{dot_gir, dot_tmp, temporary_name, Named}

-- ---- The first x

-- there are no more octets before the first x than octets
pub up_to_within : (x : ℕ) (l : List ℕ) → up_to x l ≤ length l
unfolding up_to
up_to_within x [] = omega arith
up_to_within x (y ∷ l) = let rest = up_to_within x l in grind (arith, nat_tests)

first_more : (x y : ℕ) (l : List ℕ) → up_to x (y ∷ l) ≡ cond (eqb y x) 0 (1 + up_to x l)
unfolding up_to
first_more x y l = ap (λ (n : ℕ). cond (eqb y x) 0 n) (omega arith)

-- the first x, in the library's word
first_is : (x : ℕ) (l : List ℕ) → up_to x l ≡ position_or_len (λ y. eqb y x) l
unfolding up_to
first_is x = is_position_or_len (up_to x) (λ y. eqb y x) refl (λ y m. rw (first_more x y m))

pub place_is : (x : ℕ) (l : List ℕ) → position (λ y. eqb y x) l ≡ cond (ltb (up_to x l) (length l)) (Some (up_to x l)) None
place_is x l = rw (first_is x l)

-- there is an x if and only if it has fewer octets before it than there are
pub held_is : (x : ℕ) (l : List ℕ) → list_any (λ y. eqb y x) l ≡ ltb (up_to x l) (length l)
unfolding up_to
held_is x [] = refl
held_is x (y ∷ l) = let rest = held_is x l in grind (arith, nat_tests)

-- ---- The folder of a path

-- of the first i octets the last slash ends at `found`
pub record Found (s : List ℕ) (i found : ℕ) : Type 0 where
  pub rest : folder_length s ≡ folder_from i found (drop i s)
  pub within : found ≤ i

pub found_none : (s : List ℕ) → Found s 0 0
unfolding folder_length
found_none s = record { rest = refl; within = omega arith }

one_on : (i found x : ℕ) (l : List ℕ) → folder_from i found (x ∷ l) ≡ folder_from (i + 1) (cond (eqb x 47) (i + 1) found) l
unfolding folder_from
one_on i found x l = refl

none_left : (i found : ℕ) → folder_from i found [] ≡ found
unfolding folder_from
none_left i found = refl

picked_within : (b : Bool) (i found : ℕ) → found ≤ i → cond b (i + 1) found ≤ i + 1
picked_within true i found h = omega arith
picked_within false i found h = omega arith

module _ (s : List ℕ) (i found : ℕ) (u : Found s i found) where
  pub found_more : (then : ℕ) → i < length s → then ≡ cond (eqb (get_or s i 0) 47) (i + 1) found → Found s (i + 1) then
  found_more then h e =
      record {
        rest =
            u.rest ∙ ap (folder_from i found) (drop-cons s i 0 h) ∙ one_on i found (get_or s i 0) (drop (suc i) s)
            ∙ rw (e, add-one i);
        within = rw e (picked_within (eqb (get_or s i 0) 47) i found u.within);
      }

  pub found_all : length s ≤ i → found ≡ folder_length s
  found_all h = sym (u.rest ∙ ap (folder_from i found) (drop_of_length-le s h) ∙ none_left i found)

-- ---- What two names are

-- a name with a carriage return behind it ends in one
pub return_behind : (l : List ℕ) → ends_in_return (l ++ (13 ∷ [])) ≡ true
unfolding ends_in_return
return_behind l = rw (last_place, last l)
  where
    last : (m : List ℕ) → get_or (m ++ (13 ∷ [])) (length m) 0 ≡ 13
    last [] = refl
    last (x ∷ m) = last m

    last_place : length (l ++ (13 ∷ [])) - 1 ≡ length l
    last_place = omega (arith, length-append l (13 ∷ []))

-- neither of two names ends in a carriage return
pub record NoReturn (input out : List ℕ) : Type 0 where
  pub in_without : ends_in_return input ≡ false
  pub out_without : ends_in_return out ≡ false

-- Two names that fit end in no carriage return, unless they come exactly: nothing is filed under a name with the end of a line.
pub fit_without_return : (i o : List ℕ) → T (fits (pair_of false i o)) → NoReturn i o
unfolding pair_of pair_by_ends
fit_without_return i o t = record { in_without = grind (arith, nat_tests); out_without = grind (arith, nat_tests) }

-- ---- The temporary file's name

from_within : (at found : ℕ) (l : List ℕ) → found ≤ at → folder_from at found l ≤ at + length l
from_within at found [] h = let e = none_left at found in omega arith
from_within at found (x ∷ l) h =
    let e = one_on at found x l in
    let later = from_within (at + 1) (cond (eqb x 47) (at + 1) found) l (picked_within (eqb x 47) at found h) in
    omega arith

-- the folder is a part of the path
pub folder_within : (l : List ℕ) → folder_length l ≤ length l
unfolding folder_length
folder_within l = omega (arith, from_within 0 0 l (omega arith))

module _ (out : List ℕ) where
  folder_length_lem : length (take (folder_length out) out) ≡ folder_length out
  folder_length_lem = length-take-le (folder_length out) out (folder_within out)

  -- the name is nine octets longer than OUT
  pub temporary_length : length (temporary_name out) ≡ length out + 9
  unfolding temporary_name
  temporary_length = simp (length-append, length-drop) (omega (arith, folder_length_lem, folder_within out))

  -- its four pieces, one behind the other
  pub laid_in_pieces :
      (p q d one two three four : List ℕ) → p ≡ take (folder_length out) out → q ≡ drop (folder_length out) out → length out + 9 ≤ length d
      → one ≡ laid_at 0 p d → two ≡ laid_at (length p) dot_gir one → three ≡ laid_at (length p + 5) q two
      → four ≡ laid_at (length out + 5) dot_tmp three → four ≡ laid_at 0 (temporary_name out) d
  unfolding temporary_name
  laid_in_pieces p q d one two three four isp isq room e1 e2 e3 e4 =
      let f : ℕ = length p in
      let inside = folder_within out in
      let np : f ≡ folder_length out = ap length isp ∙ folder_length_lem in
      let nq : length q ≡ length out - f = ap length isq ∙ length-drop (folder_length out) out ∙ rw np in
      let npf : length (p ++ dot_gir) ≡ f + 5 = simp length-append (omega arith) in
      let npq : length ((p ++ dot_gir) ++ q) ≡ length out + 5 = simp length-append (omega arith) in
      let w1 : one ≡ over p d = e1 ∙ laid_first p d (omega arith) in
      let w2 : two ≡ over (p ++ dot_gir) d = e2 ∙ laid_behind p dot_gir d one f refl w1 (omega arith) in
      let w3 : three ≡ over ((p ++ dot_gir) ++ q) d = e3 ∙ laid_behind (p ++ dot_gir) q d two (f + 5) npf w2 (omega arith) in
      let w4 : four ≡ over (((p ++ dot_gir) ++ q) ++ dot_tmp) d =
      e4 ∙ laid_behind ((p ++ dot_gir) ++ q) dot_tmp d three (length out + 5) npq w3 (omega arith) in
      let same_name : ((p ++ dot_gir) ++ q) ++ dot_tmp ≡ temporary_name out = simp append_assoc (rw (isp, isq)) in
      w4 ∙ ap (λ (l : List ℕ). over l d) same_name ∙ sym (laid_first (temporary_name out) d (omega (arith, temporary_length)))

  -- without room nothing is laid
  pub not_named : (d : List ℕ) → length d < length out + 9 → Named out d None d
  unfolding fits_at
  not_named d h =
      record {
        says = rw (lt-leb (length out + 9) (length d) h);
        holds = sym (laid_none 0 (temporary_name out) d (lt-leb (0 + length (temporary_name out)) (length d) (omega (arith, temporary_length))));
      }

  -- with room the name stands
  pub named_whole :
      (d held : List ℕ) → length out + 9 ≤ length d → held ≡ laid_at 0 (temporary_name out) d → Named out d (Some (length out + 9)) held
  named_whole d held h e = record { says = rw (le-leb (length out + 9) (length d) h); holds = e }

-- Any two answers that the promise of `temporary` permits are the same, the buffer included.
pub one_name :
    (out buffer : List ℕ) (said said' : Option ℕ) (held held' : List ℕ) → Named out buffer said held → Named out buffer said' held'
    → (said ≡ said') × (held ≡ held')
one_name out buffer said said' held held' p q = (p.says ∙ sym q.says, p.holds ∙ sym q.holds)
