-- Laws of octets laid over a buffer: from its start, by a loop, and from a place on. Assumes nothing.
use mathlib.Core.Path.{◌≡◌, refl, sym, ap, ◌∙◌}
use mathlib.Core.Bool.{Bool, true, false, cond}
use mathlib.Core.List.{List, [], ◌∷◌, ◌++◌, append_assoc, append-nil}
use Prim.Native.Nat.{ℕ, zero, suc, ◌+◌, ◌-◌, ◌<◌, ◌≤◌}
use native.Mathlib.Nat.{add-zero}
use native.Mathlib.Numerals.{add-one}
use native.Mathlib.Omega.{arith}
use borrow.Author.Tests.{le-leb, leb-true}
use borrow.Rule.Slice.PartMut.{put_mid}
use lib.Dec.{leb}
use lib.ListN.{length, take, drop, get_or, set, length-append, length-take, length-drop, length-set, drop_of_length-le}
use lib.Seq.{length-take-le, take-length, take_all, take-suc, drop-cons, drop-drop, drop-append-add, take-add, paste, paste-zero, paste-suc}
use lib.Seq.{set_at, append_snoc, take_at, drop_at}
use Rattle.meaning.specs.Answers.{over}
use Rattle.octets.specs.Parts.{part_of, Overlaid, fits_at, laid_at, Laid}

pub over_none : (d : List ℕ) → over [] d ≡ d
unfolding over
over_none d = refl

pub over_length : (s d : List ℕ) → length s ≤ length d → length (over s d) ≡ length d
unfolding over
over_length s d h = simp (length-append, length-drop) (omega arith)

over_snoc : (s d : List ℕ) (x n : ℕ) → length s ≡ n → n < length d → set (over s d) n x ≡ over (s ++ (x ∷ [])) d
unfolding over
over_snoc s d x n e h =
    let g : length (s ++ (x ∷ [])) ≡ suc n = simp length-append (omega arith) in
    rw (e, g, drop-cons d n 0 h, set_at s _ (drop (suc n) d) x n e, append_snoc s x)

-- what is laid over the start hides what was laid there before, where it is as long
over_again : (s t d : List ℕ) → length t ≤ length s → over s (over t d) ≡ over s d
unfolding over
over_again s t d h =
    let n : ℕ = length s - length t in
    let size : length s ≡ length t + n = omega arith in
    ap (λ (r : List ℕ). s ++ r)
    (ap (λ (k : ℕ). drop k (t ++ drop (length t) d)) size
    ∙ drop-append-add t (drop (length t) d) n
    ∙ drop-drop n (length t) d
    ∙ ap (λ (k : ℕ). drop k d) (sym size))

-- ---- By a loop

pub overlaid_none : (s d : List ℕ) → length s ≤ length d → Overlaid s d d 0
overlaid_none s d h = record { within = omega arith; room = h; kept = refl; is = sym (over_none d) }

pub overlaid_more : (s d out : List ℕ) (i x : ℕ) → Overlaid s d out i → i < length s → x ≡ get_or s i 0 → Overlaid s d (set out i x) (i + 1)
overlaid_more s d out i x w h e =
    record {
      within = omega arith;
      room = w.room;
      kept = length-set out i x ∙ w.kept;
      is = ap (λ (o : List ℕ). set o i x) w.is ∙ over_snoc (take i s) d x i (length-take-le i s w.within) (omega (arith, w.room))
          ∙ ap (λ (t : List ℕ). over t d) (rw (add-one i, take-suc s i 0 h, e));
    }

pub overlaid_all : (s d out : List ℕ) (i : ℕ) → Overlaid s d out i → length s ≤ i → out ≡ over s d
overlaid_all s d out i w h = let e : i ≡ length s = omega (arith, w.within) in w.is ∙ rw (e, take-length s)

-- What is written stands there for whoever writes the rest.
pub overlaid_begun : (s d out : List ℕ) (i : ℕ) → Overlaid s d out i → Overlaid s out out i
overlaid_begun s d out i w =
    let t : List ℕ = take i s in
    record {
      within = w.within;
      room = omega (arith, w.room, w.kept);
      kept = refl;
      is = w.is ∙ sym (over_again t t d (omega arith)) ∙ ap (over t) (sym w.is);
    }

-- So do fewer of them: some may be written again.
pub overlaid_before : (s d out : List ℕ) (i j : ℕ) → Overlaid s d out i → j ≤ i → Overlaid s out out j
unfolding over
overlaid_before s d out i j w h =
    let t : List ℕ = take j s in
    let rest : List ℕ = take (i - j) (drop j s) ++ drop (length (take i s)) d in
    let n : length t ≡ j = length-take-le j s (omega (arith, w.within)) in
    let size : i ≡ j + (i - j) = omega arith in
    let parts : take i s ≡ t ++ take (i - j) (drop j s) = ap (λ (k : ℕ). take k s) size ∙ take-add j (i - j) s in
    let held : out ≡ t ++ rest = w.is ∙ ap (λ (r : List ℕ). r ++ drop (length (take i s)) d) parts ∙ append_assoc t (take (i - j) (drop j s)) (drop (length (take i s)) d) in
    record {
      within = omega (arith, w.within);
      room = omega (arith, w.room, w.kept);
      kept = refl;
      is = held ∙ ap (λ (r : List ℕ). t ++ r) (sym (ap (λ (o : List ℕ). drop (length t) o) held ∙ drop_at t rest (length t) refl));
    }

-- And the rest may be written by another.
pub overlaid_on : (s d out out' : List ℕ) (i j : ℕ) → Overlaid s d out i → Overlaid s out out' j → i ≤ j → Overlaid s d out' j
overlaid_on s d out out' i j w v h =
    record {
      within = v.within;
      room = w.room;
      kept = v.kept ∙ w.kept;
      is = v.is ∙ ap (over (take j s)) w.is ∙ over_again (take j s) (take i s) d (omega (arith, length-take-le i s w.within, length-take-le j s v.within));
    }

-- To the end, too.
pub overlaid_end : (s d out out' : List ℕ) (i : ℕ) → Overlaid s d out i → out' ≡ over s out → out' ≡ over s d
overlaid_end s d out out' i w e = e ∙ ap (over s) w.is ∙ over_again s (take i s) d (omega (arith, length-take-le i s w.within, w.within))

-- ---- From a place on

-- what the test says
pub fits_room : (at : ℕ) (s d : List ℕ) → fits_at at s d ≡ true → at + length s ≤ length d
unfolding fits_at
fits_room at s d e = leb-true (at + length s) (length d) e

pub room_fits : (at : ℕ) (s d : List ℕ) → at + length s ≤ length d → fits_at at s d ≡ true
unfolding fits_at
room_fits at s d h = le-leb (at + length s) (length d) h

pub laid_fits : (at : ℕ) (s d : List ℕ) → at + length s ≤ length d → laid_at at s d ≡ take at d ++ over s (drop at d)
unfolding laid_at
laid_fits at s d h = rw (room_fits at s d h)

-- What does not fit changes nothing.
pub laid_none : (at : ℕ) (s d : List ℕ) → fits_at at s d ≡ false → laid_at at s d ≡ d
unfolding laid_at
laid_none at s d e = rw e

-- The buffer keeps its length.
pub laid_length : (at : ℕ) (s d : List ℕ) → length (laid_at at s d) ≡ length d
unfolding laid_at over
laid_length at s d = go (fits_at at s d) refl
  where
    go : (b : Bool) → fits_at at s d ≡ b → length (cond b (take at d ++ over s (drop at d)) d) ≡ length d
    go true e =
        let h : at + length s ≤ length d = fits_room at s d e in
        simp (length-append, length-take, length-drop) (omega arith)
    go false e = refl

-- At the start it is `over`.
pub laid_first : (s d : List ℕ) → length s ≤ length d → laid_at 0 s d ≡ over s d
laid_first s d h = laid_fits 0 s d (omega arith)

-- Laid right behind what a buffer holds already, both stand there, one behind the other.
pub laid_behind : (s t d held : List ℕ) (at : ℕ) → length s ≡ at → held ≡ over s d → at + length t ≤ length d
    → laid_at at t held ≡ over (s ++ t) d
unfolding over
laid_behind s t d held at n e h =
    let size : length (over s d) ≡ length d = over_length s d (omega arith) in
    ap (laid_at at t) e
    ∙ laid_fits at t (over s d) (omega arith)
    ∙ rw (take_at s (drop (length s) d) at n, drop_at s (drop (length s) d) at n, drop-drop (length t) (length s) d, length-append s t, append_assoc s t)

-- So a part of what is written, laid right behind what was written of it, is written too.
pub overlaid_part : (s d out t o : List ℕ) (i n j : ℕ) → Overlaid s d out i → j ≡ i + n → j ≤ length s → t ≡ part_of s i n
    → o ≡ laid_at i t out → Overlaid s d o j
unfolding part_of
overlaid_part s d out t o i n j w j_is h p q =
    let part : t ≡ take n (drop i s) = p in
    let size : length t ≡ n = ap length part ∙ length-take n (drop i s) ∙ omega (arith, length-drop i s) in
    record {
      within = h;
      room = w.room;
      kept = ap length q ∙ laid_length i t out ∙ w.kept;
      is = q ∙ laid_behind (take i s) t d out i (length-take-le i s w.within) w.is (omega (arith, w.room))
          ∙ ap (λ (r : List ℕ). over r d) (ap (λ (r : List ℕ). take i s ++ r) part ∙ sym (take-add i n s) ∙ ap (λ (k : ℕ). take k s) (sym j_is));
    }

-- the first i of s are laid over d from a place on
pub record Pasted (at : ℕ) (s d out : List ℕ) (i : ℕ) : Type 0 where
  pub within : i ≤ length s
  pub room : at + length s ≤ length d
  pub kept : length out ≡ length d
  pub is : out ≡ paste d at s i

pub pasted_none : (at : ℕ) (s d : List ℕ) → at + length s ≤ length d → Pasted at s d d 0
pasted_none at s d h = record { within = omega arith; room = h; kept = refl; is = paste-zero d at s }

module _ (at : ℕ) (s d out : List ℕ) (i : ℕ) (u : Pasted at s d out i) where
  pub pasted_more : i < length s → Pasted at s d (set out (at + i) (get_or s i 0)) (i + 1)
  pasted_more h =
      record {
        within = omega arith;
        room = u.room;
        kept = length-set out (at + i) (get_or s i 0) ∙ u.kept;
        is = ap (λ (o : List ℕ). set o (at + i) (get_or s i 0)) u.is ∙ paste-suc d at s i 0 (omega (arith, u.room)) h ∙ ap (paste d at s) (sym (add-one i));
      }

  pub pasted_all : length s ≤ i → out ≡ laid_at at s d
  unfolding over
  pasted_all h =
      let e : i ≡ length s = omega (arith, u.within) in
      u.is
      ∙ rw (e, take-length s) (append_assoc (take at d) s (drop (at + length s) d))
      ∙ ap (λ (r : List ℕ). take at d ++ (s ++ r)) (sym (drop-drop (length s) at d))
      ∙ sym (laid_fits at s d u.room)

-- the octets of s up to the one at n, each stored at its place over d, one behind the other
abbrev pub each_to : (at : ℕ) (s d : List ℕ) → (n : ℕ) → List ℕ
each_to at s d zero = set d at (get_or s 0 0)
each_to at s d (suc n) = set (each_to at s d n) (at + suc n) (get_or s (suc n) 0)

-- Stored one behind the other, octets are laid there.
module _ (at : ℕ) (s d : List ℕ) (room : at + length s ≤ length d) where
  each_pasted : (n : ℕ) → n < length s → Pasted at s d (each_to at s d n) (suc n)
  each_pasted zero h = rw (add-zero at) at (pasted_more at s d d 0 (pasted_none at s d room) h)
  each_pasted (suc n) h = rw (add-one (suc n)) at (pasted_more at s d (each_to at s d n) (suc n) (each_pasted n (omega arith)) h)

  pub each_laid : (n : ℕ) → length s ≡ suc n → each_to at s d n ≡ laid_at at s d
  each_laid n e = pasted_all at s d (each_to at s d n) (suc n) (each_pasted n (omega arith)) (omega arith)

-- Laid one behind the other, two pieces stand as one.
pub laid_two : (at n : ℕ) (s t d : List ℕ) → length s ≡ n → at + (n + length t) ≤ length d
    → laid_at (at + n) t (laid_at at s d) ≡ laid_at at (s ++ t) d
unfolding over
laid_two at n s t d size fits =
    let front : List ℕ = take at d in
    let rest : List ℕ = drop (length s) (drop at d) in
    let f : length front ≡ at = length-take-le at d (omega arith) in
    let first : laid_at at s d ≡ front ++ (s ++ rest) = laid_fits at s d (omega arith) in
    let fs : length (front ++ s) ≡ at + n = length-append front s ∙ omega arith in
    let whole : laid_at at s d ≡ (front ++ s) ++ rest = first ∙ sym (append_assoc front s rest) in
    let st : length (s ++ t) ≡ n + length t = length-append s t ∙ omega arith in
    laid_fits (at + n) t (laid_at at s d) (omega (arith, laid_length at s d))
    ∙ rw (whole, take_at (front ++ s) rest (at + n) fs, drop_at (front ++ s) rest (at + n) fs, drop-drop (length t) (length s) (drop at d))
    (append_assoc front s (t ++ drop (length s + length t) (drop at d))
    ∙ ap (λ (x : List ℕ). front ++ x) (sym (append_assoc s t (drop (length s + length t) (drop at d))))
    ∙ ap (λ (k : ℕ). front ++ ((s ++ t) ++ drop k (drop at d))) (sym (length-append s t))
    ∙ sym (laid_fits at (s ++ t) d (omega arith)))

-- what is laid, by another name
pub laid_as : (at : ℕ) (s t d out : List ℕ) → t ≡ s → out ≡ laid_at at s d → out ≡ laid_at at t d
laid_as at s t d out e h = h ∙ rw e

-- a buffer has the room that it had before
pub laid_keeps : (at : ℕ) (s d out : List ℕ) (n : ℕ) → out ≡ laid_at at s d → n ≤ length d → n ≤ length out
laid_keeps at s d out n e h = omega (arith, ap length e, laid_length at s d)

-- ---- What a writer at a place answers

-- fit is the test that the n octets of s fit
module _ (at : ℕ) (s d : List ℕ) (n : ℕ) (fit : Bool) (size : n ≡ length s) (test : fit ≡ leb (at + n) (length d)) where
  pub laid_room : fit ≡ true → at + n ≤ length d
  laid_room e = leb-true (at + n) (length d) (sym test ∙ e)

  fit_is : fit ≡ fits_at at s d
  unfolding fits_at
  fit_is = test ∙ ap (λ (m : ℕ). leb (at + m) (length d)) size

  pub laid_not : fit ≡ false → Laid at s d false d
  laid_not e = record { says = sym e ∙ fit_is; holds = sym (laid_none at s d (sym fit_is ∙ e)) }

  pub laid_done : fit ≡ true → (out : List ℕ) → out ≡ laid_at at s d → Laid at s d true out
  laid_done e out q = record { says = sym e ∙ fit_is; holds = q }

  -- `put_mid` is how the borrow checker puts a lent part back: what was laid over the start of the part, said of the whole
  pub laid_part : (p : List ℕ) → fit ≡ true → p ≡ over s (take (length d - at) (drop at d))
      → Laid at s d true (put_mid at (length d - at) d p)
  laid_part p e q =
      let room : at + n ≤ length d = laid_room e in
      let all : take (length d - at) (drop at d) ≡ drop at d = take_all (length d - at) (drop at d) (omega (arith, length-drop at d)) in
      let none : drop (length d - at) (drop at d) ≡ [] =
      drop_of_length-le (drop at d) {i = length d - at} (omega (arith, length-drop at d)) in
      record {
        says = sym e ∙ fit_is;
        holds = ap (λ (r : List ℕ). take at d ++ r) (ap (λ (r : List ℕ). p ++ r) none ∙ append-nil p ∙ q ∙ ap (over s) all) ∙ sym (laid_fits at s d (omega arith));
      }

pub laid_there : (at : ℕ) (s d p : List ℕ) → at + length s ≤ length d → p ≡ over s (take (length d - at) (drop at d))
    → Laid at s d true (put_mid at (length d - at) d p)
laid_there at s d p h q = laid_part at s d (length s) _ refl refl p (le-leb (at + length s) (length d) h) q

-- What was copied over the start of a buffer, by the promise of the kit's `bytes::copy`, is laid there.
pub copied_over : (s d p : List ℕ) → p ≡ take (length s) s ++ drop (length s) d → p ≡ over s d
unfolding over
copied_over s d p q = q ∙ ap (λ (r : List ℕ). r ++ drop (length s) d) (take-length s)

-- So it is over a lent part with room for it, said of the whole buffer.
pub copied_there : (at : ℕ) (s d p : List ℕ) → at + length s ≤ length d
    → p ≡ take (length s) s ++ drop (length s) (take (length d - at) (drop at d)) → put_mid at (length d - at) d p ≡ laid_at at s d
copied_there at s d p h q = (laid_there at s d p h (copied_over s (take (length d - at) (drop at d)) p q)).holds

-- What is copied into a lent part of just its length is laid there, said of the whole buffer.
pub copied_part : (at end : ℕ) (s d p : List ℕ) → end ≡ at + length s → end ≤ length d → p ≡ s → put_mid at (end - at) d p ≡ laid_at at s d
unfolding over
copied_part at end s d p size h q =
    ap (λ (r : List ℕ). take at d ++ r) (ap (λ (r : List ℕ). r ++ drop (end - at) (drop at d)) q
    ∙ ap (λ (m : ℕ). s ++ drop m (drop at d)) (omega (arith, size)))
    ∙ sym (laid_fits at s d (omega (arith, size)))

-- And into the front of a buffer.
pub copied_front : (n : ℕ) (s d p : List ℕ) → n ≡ length s → p ≡ s → p ++ drop n d ≡ over s d
unfolding over
copied_front n s d p size q = ap (λ (r : List ℕ). r ++ drop n d) q ∙ ap (λ (m : ℕ). s ++ drop m d) size

-- Any two answers that a writer's promise permits are the same, the buffer included.
pub one_laid : (at : ℕ) (s d : List ℕ) (said said' : Bool) (held held' : List ℕ) → Laid at s d said held → Laid at s d said' held'
    → (said ≡ said') × (held ≡ held')
one_laid at s d said said' held held' p q = (p.says ∙ sym q.says, p.holds ∙ sym q.holds)
