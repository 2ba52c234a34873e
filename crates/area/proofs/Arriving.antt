-- Refusals 1 to 3, which come before the framing: one law for each answer, and for a caller what the answer says of the first of
-- refusals 1 to 8. Assumes nothing.
use mathlib.Core.Path.{◌≡◌, refl, sym, ◌∙◌}
use mathlib.Core.Bool.{Bool, true, false, not}
use mathlib.Core.List.{List}
use Prim.Native.Nat.{ℕ, ◌<◌, ◌≤◌}
use native.Mathlib.Omega.{arith}
use lib.Dec.{ltb}
use lib.ListN.{length}
use borrow.Author.Tests.{lt-ltb, le-ltb, ltb-false}
use Rattle.meaning.specs.Jobs.{is_kind, are_flags}
use Rattle.meaning.specs.Framing.{walk}
use Rattle.meaning.specs.Refusals.{refusal, when, first, fault, kind_refusal, framing_refusal, area_refusal}
use Rattle.area.specs.Answers.{arrival_from, arrival_of}
use Rattle.area.specs.declared.Refusal.{Refusal}
use Rattle.std.specs.Prelude.{Result, Ok, Err}

-- ---- One law for each answer

module _ (kind flags size : ℕ) where
  pub bad_kind : is_kind kind ≡ false → Err (record { number = 1; second = 0 }) ≡ arrival_of kind flags size
  unfolding arrival_of kind_refusal
  bad_kind k = rw k

  module _ (k : is_kind kind ≡ true) where
    pub bad_flags : are_flags flags ≡ false → Err (record { number = 2; second = 0 }) ≡ arrival_of kind flags size
    unfolding arrival_of kind_refusal
    bad_flags f = rw (k, f)

    module _ (f : are_flags flags ≡ true) where
      pub too_long : 4076 < size → Err (record { number = 3; second = size }) ≡ arrival_of kind flags size
      unfolding arrival_of kind_refusal
      too_long h = rw (k, f, lt-ltb 4076 size h)

      pub all_fit : size ≤ 4076 → Ok tt ≡ arrival_of kind flags size
      unfolding arrival_of kind_refusal
      all_fit h = rw (k, f, le-ltb 4076 size h)

-- ---- For a caller of `arrive`

-- An area that comes with a kind, flags and a length of which nothing of 1 to 3 applies: what is left is the fault of its walk.
pub record Arrived (kind flags : ℕ) (area : List ℕ) : Type 0 where
  pub kind_ok : is_kind kind ≡ true
  pub short : length area ≤ 4076
  pub left : area_refusal kind flags area ≡ fault (walk area)

-- The answer r of `arrive`, known by what it ensures and by the arm of a match.
module _ (kind flags : ℕ) (area : List ℕ) (r : Result (Unit {0}) Refusal) (says : r ≡ arrival_of kind flags (length area)) where
  pub fit_arrived : r ≡ Ok tt → Arrived kind flags area
  unfolding arrival_of area_refusal kind_refusal framing_refusal
  fit_arrived q = go (is_kind kind) (are_flags flags) (ltb 4076 (length area)) refl refl refl (sym q ∙ says)
    where
      go :
          (k f t : Bool) → is_kind kind ≡ k → are_flags flags ≡ f → ltb 4076 (length area) ≡ t
          → Ok tt ≡ arrival_from (first (first (when (not k) 1 0) (when (not f) 2 0)) (when t 3 (length area))) → Arrived kind flags area
      go false f t x y z e = absurd (let w : ◌≡◌ {A = ℕ} 0 1 = cc in omega arith)
      go true false t x y z e = absurd (let w : ◌≡◌ {A = ℕ} 0 1 = cc in omega arith)
      go true true true x y z e = absurd (let w : ◌≡◌ {A = ℕ} 0 1 = cc in omega arith)
      go true true false x y z e = record { kind_ok = x; short = ltb-false 4076 (length area) z; left = rw (x, y, z) }

  pub refused_first : (refused : Refusal) → r ≡ Err refused → area_refusal kind flags area ≡ refusal refused.number refused.second
  unfolding arrival_of area_refusal kind_refusal framing_refusal
  refused_first refused q = go (is_kind kind) (are_flags flags) (ltb 4076 (length area)) (sym q ∙ says)
    where
      go :
          (k f t : Bool) → Err refused ≡ arrival_from (first (first (when (not k) 1 0) (when (not f) 2 0)) (when t 3 (length area)))
          → first (first (when (not k) 1 0) (when (not f) 2 0)) (first (when t 3 (length area)) (fault (walk area)))
          ≡ refusal refused.number refused.second
      go false f t e = cc
      go true false t e = cc
      go true true true e = cc
      go true true false e = absurd (let w : ◌≡◌ {A = ℕ} 0 1 = cc in omega arith)
