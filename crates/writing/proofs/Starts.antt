-- What the kept octets of a longer sheet decide, by what they are judged by themselves. Assumes nothing.
use mathlib.Core.Path.{◌≡◌, refl, sym, ap, ◌∙◌}
use mathlib.Core.Bool.{Bool, true, false}
use mathlib.Core.List.{List}
use Prim.Native.Nat.{ℕ, ◌<◌, ◌≤◌}
use native.Mathlib.Omega.{arith}
use borrow.Author.Tests.{eq-eqb, ne_eqb, le-leb, lt-leb}
use lib.ListN.{length}
use Rattle.meaning.specs.Refusals.{Refusal, none, refusal}
use Rattle.meaning.specs.Sheet.{judged}
use Rattle.octets.specs.Parts.{part_of}
use Rattle.area.specs.declared.Refusal as declared
use Rattle.std.specs.Prelude.{Option, Ok, Err}
use Rattle.writing.specs.declared.Written.{Written}
use Rattle.writing.specs.Starts.{filled, start_by, start_refusal}
use Rattle.writing.specs.Answers.{Judgement, judgement_of, start_said}

-- ---- What a judgement tells

module _ (l : List ℕ) (r : Judgement) (says : r ≡ judgement_of l) where
  pub judged_writable : {w : Written} → r ≡ Ok w → judged l ≡ none
  unfolding judgement_of
  judged_writable {w} e = go (judged l) refl (sym e ∙ says)
    where
      go : (x : Refusal) → judged l ≡ x → Ok w ≡ judgement_of l → judged l ≡ none
      go none p h = p
      go (refusal m s) p h = absurd (let g = rw p at h in let z : ◌≡◌ {A = ℕ} 0 1 = cc in omega arith)

  pub judged_refusal : {x : declared.Refusal} → r ≡ Err x → judged l ≡ refusal x.number x.second
  unfolding judgement_of
  judged_refusal {x} e = go (judged l) refl (sym e ∙ says)
    where
      go : (y : Refusal) → judged l ≡ y → Err x ≡ judgement_of l → judged l ≡ refusal x.number x.second
      go none p h = absurd (let g = rw p at h in let z : ◌≡◌ {A = ℕ} 0 1 = cc in omega arith)
      go (refusal m s) p h = let g : Err x ≡ Err (record { number = m; second = s }) = rw p at h in let q : x ≡ record { number = m; second = s } = cc in rw (p, q)

pub filled_none : (l : List ℕ) → judged l ≡ none → true ≡ filled (judged l)
unfolding filled
filled_none l e = rw e

-- ---- By the number of the refusal

module _ (l : List ℕ) (n s : ℕ) where
  pub start_24 : {r : Option declared.Refusal} → r ≡ start_said (refusal 22 (length l)) → n ≡ 24 → r ≡ start_said (start_by l (refusal n s))
  start_24 h e = h ∙ rw (eq-eqb n 24 e)

  pub start_filled : {r : Option declared.Refusal} {b : Bool} (k : List ℕ) → r ≡ start_said (refusal 22 s) → k ≡ part_of l 0 s → b ≡ filled (judged k)
      → b ≡ true → n ≡ 22 → r ≡ start_said (start_by l (refusal n s))
  unfolding part_of
  start_filled k h p f t e = h ∙ sym (rw (ne_eqb n 24 (λ z. omega arith), eq-eqb n 22 e, sym (ap (λ (m : List ℕ). filled (judged m)) p), sym f, t))

  pub start_open : {b : Bool} (k : List ℕ) → k ≡ part_of l 0 s → b ≡ filled (judged k) → b ≡ false → n ≡ 22
      → start_said none ≡ start_said (start_by l (refusal n s))
  unfolding part_of
  start_open k p f t e = sym (rw (ne_eqb n 24 (λ z. omega arith), eq-eqb n 22 e, sym (ap (λ (m : List ℕ). filled (judged m)) p), sym f, t))

-- ---- Whole

module _ (l : List ℕ) {r : Option declared.Refusal} (x : Refusal) (is : judged l ≡ x) where
  pub start_is : r ≡ start_said (start_by l x) → r ≡ start_said (start_refusal l)
  unfolding start_refusal
  start_is h = h ∙ rw is
