-- Entries laid into a list one behind the other: one by its test, and those chosen of candidates. Assumes nothing.
use mathlib.Core.Path.{◌≡◌, refl, sym, ap, ◌∙◌}
use mathlib.Core.Bool.{Bool, true, false}
use mathlib.Core.List.{List, [], ◌∷◌, ◌++◌, map}
use Prim.Native.Nat.{ℕ, zero, suc, ◌+◌, ◌≤◌, ◌<◌}
use native.Mathlib.Nat.{add-zero, zero-add, add-suc, suc-add, le_of_suc-le-suc, not-suc-le-zero}
use native.Mathlib.Omega.{arith}
use native.Mathlib.Numerals.{add-one}
use lib.Dec.{T, ltb, ltb→lt}
use lib.ListN.{length, take, drop, get_or, set, length-append}
use lib.Seq.{take-suc, take_all, sets, length-sets, sets-eq}
use borrow.Table.Elements.{map_app}
use Rattle.meaning.specs.Octets.{all}
use Rattle.meaning.proofs.Tests.{parts}
use Rattle.meaning.specs.Listing.{Candidate, put, chosen}
use Rattle.meaning.specs.Answers.{over}
use Rattle.checking.specs.Lists.{when, laid_from, LaysEntries, LaysOne}

-- ---- One entry

set_past : (d : List ℕ) (at e : ℕ) → length d ≤ at → d ≡ set d at e
set_past [] at e h = refl
set_past (x ∷ d) zero e h = absurd (not-suc-le-zero h)
set_past (x ∷ d) (suc at) e h = ap (λ (l : List ℕ). x ∷ l) (set_past d at e (le_of_suc-le-suc h))

module _ (stands : Bool) (e : ℕ) (d : List ℕ) (at : ℕ) where
  -- it does not stand
  pub put_not : stands ≡ false → LaysOne stands e d at at d
  unfolding when laid_from
  put_not s = rw s (record { lays = record { counts = sym (add-zero at); holds = refl }; few = omega arith })

  -- it stands, and the list has room
  pub put_there : (x : ℕ) → stands ≡ true → x ≡ e → LaysOne stands e d at (at + 1) (set d at x)
  unfolding when laid_from
  put_there x s p = rw (s, p) (record { lays = record { counts = refl; holds = refl }; few = omega arith })

  -- it stands behind the list's end
  pub put_past : stands ≡ true → length d ≤ at → LaysOne stands e d at (at + 1) d
  unfolding when laid_from
  put_past s h = rw s (record { lays = record { counts = refl; holds = set_past d at e h }; few = omega arith })

-- ---- One behind the other

sets_then : (d : List ℕ) (at : ℕ) (l m : List ℕ) → sets (sets d at l) (at + length l) m ≡ sets d at (l ++ m)
sets_then d at [] m = ap (λ (k : ℕ). sets d k m) (add-zero at)
sets_then d at (x ∷ l) m =
    ap (λ (k : ℕ). sets (sets d at (x ∷ l)) k m) (add-suc at (length l) ∙ sym (suc-add at (length l))) ∙ sets_then (set d at x) (suc at) l m

-- none
pub laid_none : (d : List ℕ) (at : ℕ) → LaysEntries [] d at at d
unfolding laid_from
laid_none d at = record { counts = sym (add-zero at); holds = refl }

-- two, one behind the other
pub laid_then : (l m d first held : List ℕ) (at between said : ℕ) → LaysEntries l d at between first
    → LaysEntries m first between said held → LaysEntries (l ++ m) d at said held
unfolding laid_from
laid_then l m d first held at between said p q =
    record {
      counts = omega (arith, p.counts, q.counts, length-append l m);
      holds = q.holds ∙ rw (p.holds, p.counts) (sets_then d at l m);
    }

-- The list keeps its length.
pub laid_kept : (l d held : List ℕ) (at said : ℕ) → LaysEntries l d at said held → length held ≡ length d
unfolding laid_from
laid_kept l d held at said p = ap length p.holds ∙ length-sets d at l

-- From the start on and with room for all, the entries stand over it.
pub laid_over : (l d held : List ℕ) (said : ℕ) → LaysEntries l d 0 said held → length l ≤ length d → held ≡ over l d
unfolding laid_from over
laid_over l d held said p h =
    p.holds ∙ sets-eq l d 0 (omega arith) ∙ ap (λ (k : ℕ). l ++ drop k d) (zero-add (length l))

-- ---- Those chosen

chosen_first : (c : Candidate) (cs : List Candidate) → chosen (c ∷ cs) ≡ when c.stands c.key ++ chosen cs
unfolding chosen when
chosen_first c cs = go c.stands
  where
    go : (b : Bool) → put b c.key (chosen cs) ≡ put b c.key [] ++ chosen cs
    go true = refl
    go false = refl

pub chosen_none : (d : List ℕ) (at : ℕ) → LaysEntries (chosen []) d at at d
unfolding chosen
chosen_none d at = laid_none d at

-- a candidate, known by its test, and then others
pub chosen_then : (c : Candidate) (cs : List Candidate) (stands : Bool) (d first held : List ℕ) (at between said : ℕ)
    → stands ≡ c.stands → LaysOne stands c.key d at between first → LaysEntries (chosen cs) first between said held
    → LaysEntries (chosen (c ∷ cs)) d at said held
chosen_then c cs stands d first held at between said s p q =
    rw (chosen_first c cs)
    (laid_then (when c.stands c.key) (chosen cs) d first held at between said (rw s at p.lays) q)

-- what is chosen of two lists of candidates
pub chosen_append : (cs ds : List Candidate) → chosen (cs ++ ds) ≡ chosen cs ++ chosen ds
unfolding chosen
chosen_append [] ds = refl
chosen_append (c ∷ cs) ds = go c.stands (chosen_append cs ds)
  where
    go : (b : Bool) → chosen (cs ++ ds) ≡ chosen cs ++ chosen ds
        → put b c.key (chosen (cs ++ ds)) ≡ put b c.key (chosen cs) ++ chosen ds
    go true e = ap (λ (l : List ℕ). c.key ∷ l) e
    go false e = e

-- what is chosen of some candidates, and then of others
pub chosen_both : (cs ds : List Candidate) (d first held : List ℕ) (at between said : ℕ)
    → LaysEntries (chosen cs) d at between first → LaysEntries (chosen ds) first between said held
    → LaysEntries (chosen (cs ++ ds)) d at said held
chosen_both cs ds d first held at between said p q =
    rw (chosen_append cs ds) (laid_then (chosen cs) (chosen ds) d first held at between said p q)

-- no more are chosen than there are
pub chosen_few : (cs : List Candidate) → length (chosen cs) ≤ length cs
unfolding chosen
chosen_few [] = omega arith
chosen_few (c ∷ cs) = go c.stands (chosen_few cs)
  where
    go : (b : Bool) → length (chosen cs) ≤ length cs → length (put b c.key (chosen cs)) ≤ suc (length cs)
    go true h = omega arith
    go false h = omega arith

pub chosen_low : (cs : List Candidate) (d held : List ℕ) (at said : ℕ) → LaysEntries (chosen cs) d at said held → said ≤ at + length cs
chosen_low cs d held at said p = omega (arith, p.counts, chosen_few cs)

-- ---- Candidate by candidate

-- The loop has laid those of the first i numbers.
pub record Laying (f : ℕ → Candidate) (numbers d : List ℕ) (at i written : ℕ) (held : List ℕ) : Type 0 where
  pub lays : LaysEntries (chosen (map f (take i numbers))) d at written held
  pub few : written ≤ at + i

module _ (f : ℕ → Candidate) (numbers d : List ℕ) (at : ℕ) where
  pub laying_none : Laying f numbers d at 0 at d
  laying_none = record { lays = chosen_none d at; few = omega arith }

  module _ (i written : ℕ) (held : List ℕ) (k : Laying f numbers d at i written held) where
    pub laying_more : i < length numbers → (stands : Bool) (said : ℕ) (after : List ℕ) → stands ≡ (f (get_or numbers i 0)).stands
        → LaysOne stands (f (get_or numbers i 0)).key held written said after → Laying f numbers d at (i + 1) said after
    laying_more h stands said after s p =
        let n = get_or numbers i 0 in
        let more : map f (take (i + 1) numbers) ≡ map f (take i numbers) ++ f n ∷ [] =
        rw (add-one i, take-suc numbers i 0 h) (map_app f (take i numbers) (n ∷ [])) in
        record {
          lays =
              rw more
              (chosen_both (map f (take i numbers)) (f n ∷ []) d held after at written said k.lays
              (chosen_then (f n) [] stands held after after written said said s p (chosen_none after said)));
          few = omega (arith, k.few, p.few);
        }

-- a number of a list that a test finds low
pub low_at : (bound : ℕ) (l : List ℕ) → T (all (λ n. ltb n bound) l) → (i : ℕ) → i < length l → get_or l i 0 < bound
low_at bound [] t i h = absurd (not-suc-le-zero h)
low_at bound (x ∷ l) t zero h = ltb→lt x bound (parts (ltb x bound) (all (λ n. ltb n bound) l) t).0
low_at bound (x ∷ l) t (suc i) h =
    low_at bound l (parts (ltb x bound) (all (λ n. ltb n bound) l) t).1 i (le_of_suc-le-suc h)
