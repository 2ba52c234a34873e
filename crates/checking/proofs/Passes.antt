-- The pass over an area's attributes: what its loop has laid, and the numbers it has seen. Assumes nothing.
use mathlib.Core.Path.{◌≡◌, refl, sym, ap, ap₂, ◌∙◌}
use mathlib.Core.Bool.{Bool, true, false, not, ◌&&◌, ◌||◌, or-false}
use mathlib.Core.List.{List, [], ◌∷◌, ◌++◌, append_assoc, append-nil}
use Prim.Native.Nat.{ℕ, ◌+◌, ◌*◌, ◌-◌, ◌≤◌, ◌<◌}
use native.Mathlib.Omega.{arith}
use lib.Dec.{eqb}
use lib.ListN.{length, take, drop, get_or, set, replicate, length-set, length-replicate, get_or-replicate}
use lib.Seq.{get_or-set_same, get_or-set_other}
use borrow.Author.Tests.{eqb-true, eqb-false, not-true}
use Rattle.meaning.specs.Versions.{current}
use Rattle.meaning.specs.Octets.{is_in}
use Rattle.meaning.specs.Jobs.{Context}
use Rattle.meaning.specs.Framing.{Walk, end, broken, walk, walk_at, attributes}
use Rattle.meaning.specs.Refusals.{fault}
use Rattle.meaning.specs.Shapes.{shape_of, meets, allowed}
use Rattle.meaning.specs.Breaches.{entry, barred, once_only}
use Rattle.meaning.specs.Listing.{chosen, View, view, broken_by, at_attribute, along, numbers_of, views_of}
use Rattle.meaning.proofs.Tests.{parts, is_true, passes}
use Rattle.area.specs.declared.Refusal.{Refusal}
use Rattle.area.specs.declared.Part.{Part}
use Rattle.area.specs.Answers.{carried_at}
use Rattle.area.proofs.Steps.{AttributeAt, attribute_in}
use Rattle.std.specs.Prelude.{Ok, Err}
use Rattle.checking.specs.Lists.{LaysEntries, LaysOne, view_at, Notes, AlongSays}
use Rattle.checking.proofs.Laying.{put_not, laid_none, laid_then, laid_kept, chosen_none, chosen_then, chosen_append, chosen_few}
use Rattle.checking.proofs.Walking.{Reaches, reaches_more}

-- ---- Rules 1 to 4

-- the view of an attribute in an area; its value ends where the next attribute begins
view_in : (c : Context) (l : List ℕ) (place n : ℕ) (p : Part) (behind : ℕ) (v : List ℕ) → p.start + p.len ≡ behind
    → v ≡ take (behind - p.start) (drop p.start l) → view c (attribute_in l place n p) ≡ view_at c place n v
view_in c l place n p behind v ends e =
    let long : behind - p.start ≡ p.len = omega (arith, ends) in
    rw (e, long)

-- an attribute breaks four rules at most
broken_few : (c : Context) (again : Bool) (x : View) → length (chosen (broken_by c again x)) ≤ 4
unfolding broken_by
broken_few c again x = chosen_few (broken_by c again x)

-- What the code finds of an attribute by its tests.
module _ (c : Context) (again : Bool) (place n : ℕ) (v : List ℕ) (met off bar : Bool) (m : met ≡ meets current (shape_of n) v)
    (o : off ≡ met && not (allowed c n v)) (b : bar ≡ barred c n) where
  -- what it breaks, laid rule by rule
  pub broken_laid : (d one two three held : List ℕ) (at first second third said : ℕ)
      → LaysOne (not met) (entry place 1 n) d at first one → LaysOne off (entry place 2 n) one first second two
      → LaysOne again (entry place 3 n) two second third three → LaysOne bar (entry place 4 n) three third said held
      → LaysEntries (chosen (broken_by c again (view_at c place n v))) d at said held
  unfolding broken_by view
  broken_laid d one two three held at first second third said p q r s =
      chosen_then _ _ (not met) d one held at first said (rw m) p
      (chosen_then _ _ off one two held first second said (rw (o, m)) q
      (chosen_then _ _ again two three held second third said refl r
      (chosen_then _ _ bar three held held third said said b s (chosen_none held said))))

  -- it breaks no rule
  pub broken_none : (d : List ℕ) (at : ℕ) → (met && not off) && (not again && not bar) ≡ true
      → LaysEntries (chosen (broken_by c again (view_at c place n v))) d at at d
  broken_none d at t =
      let two = parts (met && not off) (not again && not bar) (passes _ t) in
      let shape = parts met (not off) two.0 in
      let rest = parts (not again) (not bar) two.1 in
      broken_laid d d d d d at at at at at (put_not (not met) (entry place 1 n) d at (ap not (is_true met shape.0)))
      (put_not off (entry place 2 n) d at (not-true off (is_true (not off) shape.1)))
      (put_not again (entry place 3 n) d at (not-true again (is_true (not again) rest.0)))
      (put_not bar (entry place 4 n) d at (not-true bar (is_true (not bar) rest.1)))

-- ---- The numbers seen

-- none yet
pub notes_none : Notes (replicate 512 false) []
notes_none = record { long = length-replicate 512 false; says = λ n h. get_or-replicate 512 n false false h }

or_assoc : (a b c : Bool) → a || (b || c) ≡ (a || b) || c
or_assoc true b c = refl
or_assoc false b c = refl

or_true : (b : Bool) → true ≡ b || true
or_true true = refl
or_true false = refl

-- one of a list, or the one behind it
in_more : (t : ℕ) (l : List ℕ) (n : ℕ) → is_in t (l ++ n ∷ []) ≡ is_in t l || eqb t n
in_more t [] n = or-false (eqb t n)
in_more t (x ∷ l) n = ap (λ (b : Bool). eqb t x || b) (in_more t l n) ∙ or_assoc (eqb t x) (is_in t l) (eqb t n)

notes_more : (seen : List Bool) (numbers : List ℕ) (n : ℕ) → n < 512 → Notes seen numbers → Notes (set seen n true) (numbers ++ n ∷ [])
notes_more seen numbers n h s =
    record {
      long = length-set seen n true ∙ s.long;
      says = λ t low. at t low (eqb t n) refl ∙ sym (in_more t numbers n);
    }
  where
    at : (t : ℕ) → t < 512 → (b : Bool) → eqb t n ≡ b → get_or (set seen n true) t false ≡ is_in t numbers || eqb t n
    at t low true e =
        let same : t ≡ n = eqb-true t n e in
        rw (e, same) (get_or-set_same seen n true false (omega (arith, s.long)) ∙ or_true (is_in n numbers))
    at t low false e =
        rw e (get_or-set_other seen n t true false (eqb-false t n e) ∙ s.says t low ∙ sym (or-false (is_in t numbers)))

-- ---- The loop

-- The loop stands at a place; it has passed attributes that carry the numbers `numbers`, noted these, and laid the entries `gone`.
pub record Passing (c : Context) (l d out : List ℕ) (seen : List Bool) (place written : ℕ) : Type 0 where
  pub numbers : List ℕ
  pub reaches : Reaches l 0 numbers place
  pub same_fault : fault (walk l) ≡ fault (walk_at l place)
  pub notes : Notes seen numbers
  pub all : numbers_of (views_of c (walk l)) ≡ numbers ++ numbers_of (views_of c (walk_at l place))
  pub gone : List ℕ
  pub whole : chosen (along c [] (views_of c (walk l))) ≡ gone ++ chosen (along c numbers (views_of c (walk_at l place)))
  pub lays : LaysEntries gone d 0 written out
  pub inside : place ≤ length l
  pub few : written ≤ 2 * place

pub passing_none : (c : Context) (l d : List ℕ) (seen : List Bool) → Notes seen [] → Passing c l d d seen 0 0
unfolding walk
passing_none c l d seen none_seen =
    record {
      numbers = [];
      reaches = refl;
      same_fault = refl;
      notes = none_seen;
      all = refl;
      gone = [];
      whole = refl;
      lays = laid_none d 0;
      inside = omega arith;
      few = omega arith;
    }

module _ (c : Context) (l d out : List ℕ) (seen : List Bool) (place written : ℕ) (k : Passing c l d out seen place written) where
  -- one attribute more
  pub passing_more : (n : ℕ) (p : Part) (behind : ℕ) → record { number = n; value = p; next = behind } ≡ carried_at l place
      → AttributeAt l place n p behind → n < 512 → (again : Bool) (v held : List ℕ) (said : ℕ)
      → again ≡ once_only n && is_in n k.numbers → v ≡ take (behind - p.start) (drop p.start l)
      → LaysEntries (chosen (broken_by c again (view_at c place n v))) out written said held
      → Passing c l d held (set seen n true) behind said
  unfolding along at_attribute view attributes fault
  passing_more n p behind says s low again v held said a e laid =
      let now : List ℕ = chosen (broken_by c again (view_at c place n v)) in
      let rest : List ℕ = chosen (along c (k.numbers ++ n ∷ []) (views_of c (walk_at l behind))) in
      let step : chosen (along c k.numbers (views_of c (walk_at l place))) ≡ now ++ rest =
      ap (λ (w : Walk). chosen (along c k.numbers (views_of c w))) s.walks
      ∙ chosen_append (at_attribute c k.numbers (view c (attribute_in l place n p)))
      (along c (k.numbers ++ n ∷ []) (views_of c (walk_at l behind)))
      ∙ ap₂ (λ (b : Bool) (x : View). chosen (broken_by c b x) ++ rest) (sym a) (view_in c l place n p behind v s.ends e) in
      record {
        numbers = k.numbers ++ n ∷ [];
        reaches =
            reaches_more l 0 k.numbers place (record { number = n; value = p; next = behind }) says (omega (arith, s.onwards))
            k.reaches;
        same_fault = k.same_fault ∙ ap fault s.walks;
        notes = notes_more seen k.numbers n low k.notes;
        all =
            k.all ∙ ap (λ (w : Walk). k.numbers ++ numbers_of (views_of c w)) s.walks
            ∙ sym (append_assoc k.numbers (n ∷ []) (numbers_of (views_of c (walk_at l behind))));
        gone = k.gone ++ now;
        whole = k.whole ∙ ap (λ (x : List ℕ). k.gone ++ x) step ∙ sym (append_assoc k.gone now rest);
        lays = laid_then k.gone now d out held 0 written said k.lays laid;
        inside = s.inside;
        few = omega (arith, k.few, s.onwards, laid.counts, broken_few c again (view_at c place n v));
      }

  -- none is left: what was laid, and what was seen
  pub passing_done : walk_at l place ≡ end → AlongSays c l d (Ok written) out seen
  unfolding AlongSays along chosen attributes fault
  passing_done h =
      let laid : chosen (along c [] (views_of c (walk l))) ≡ k.gone =
      k.whole ∙ ap (λ (w : Walk). k.gone ++ chosen (along c k.numbers (views_of c w))) h ∙ append-nil k.gone in
      let noted : numbers_of (views_of c (walk l)) ≡ k.numbers =
      k.all ∙ ap (λ (w : Walk). k.numbers ++ numbers_of (views_of c w)) h ∙ append-nil k.numbers in
      record {
        sound = k.same_fault ∙ ap fault h;
        lays = rw laid k.lays;
        few = omega (arith, k.few, k.inside);
        notes = rw noted k.notes;
      }

  -- a refusal
  pub passing_broken : (refused : Refusal) → walk_at l place ≡ broken refused.number refused.second
      → AlongSays c l d (Err refused) out seen
  unfolding AlongSays fault
  passing_broken refused h = record { first = k.same_fault ∙ ap fault h; kept = laid_kept k.gone d out 0 written k.lays }
