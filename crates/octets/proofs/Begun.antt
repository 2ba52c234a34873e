-- Laws of octets laid at a place of a buffer, where nothing is said of what stands behind them. Assumes nothing.
use mathlib.Core.Path.{◌≡◌, refl, sym, ap, ap₂, subst, ◌∙◌}
use mathlib.Core.List.{List, [], ◌++◌, append_assoc, append-nil}
use Prim.Native.Nat.{ℕ, ◌+◌, ◌≤◌}
use native.Mathlib.Nat.{add-zero}
use native.Mathlib.Omega.{arith}
use lib.ListN.{length, take, drop, length-append, take-append-drop}
use lib.Seq.{length-take-le, take-add, take-take, take-append-le, take-append-add, take_at, drop_at, drop-drop}
use Rattle.meaning.specs.Answers.{over}
use Rattle.octets.specs.Parts.{part_of, laid_at, Begun}
use Rattle.octets.proofs.Parts.{part_at_most}
use Rattle.octets.proofs.Overs.{laid_fits, laid_length}

-- Nothing stands anywhere.
pub begun_none : (at : ℕ) (d : List ℕ) → Begun at [] d d
begun_none at d = record { kept = refl; is = ap (λ (n : ℕ). take n d) (add-zero at) ∙ sym (append-nil (take at d)) }

-- Octets that are laid exactly stand there.
pub begun_laid : (at : ℕ) (s d out : List ℕ) → at + length s ≤ length d → out ≡ laid_at at s d → Begun at s d out
unfolding over
begun_laid at s d out room e =
    let front : length (take at d) ≡ at = length-take-le at d (omega arith) in
    let size : length (take at d ++ s) ≡ at + length s = length-append (take at d) s ∙ omega arith in
    record {
      kept = ap length e ∙ laid_length at s d;
      is = ap (take (at + length s)) (e ∙ laid_fits at s d room ∙ sym (append_assoc (take at d) s (drop (length s) (drop at d)))) ∙ take_at (take at d ++ s) _ (at + length s) size;
    }

-- what stands there, by another name
pub begun_as : (at : ℕ) (s t d out : List ℕ) → t ≡ s → Begun at s d out → Begun at t d out
begun_as at s t d out e b = subst (λ (r : List ℕ). Begun at r d out) (sym e) b

-- Where octets stand, their start does.
pub begun_start : (at : ℕ) (s t d out : List ℕ) → at ≤ length d → Begun at (s ++ t) d out → Begun at s d out
begun_start at s t d out h b =
    let front : length (take at d) ≡ at = length-take-le at d h in
    let size : length (take at d ++ s) ≡ at + length s = length-append (take at d) s ∙ omega arith in
    record {
      kept = b.kept;
      is =
          sym (take-take (at + length s) (at + length (s ++ t)) out (omega (arith, length-append s t)))
          ∙ ap (take (at + length s)) (b.is ∙ sym (append_assoc (take at d) s t))
          ∙ take_at (take at d ++ s) t (at + length s) size;
    }

pub begun_take : (at n : ℕ) (s d out : List ℕ) → at ≤ length d → Begun at s d out → Begun at (take n s) d out
begun_take at n s d out h b = begun_start at (take n s) (drop n s) d out h (begun_as at s (take n s ++ drop n s) d out (take-append-drop n s) b)

-- So do the first n of them where sixteen were laid, or as many as there are.
pub begun_short : (at n : ℕ) (s d out : List ℕ) → n ≤ 16 → at + 16 ≤ length d → out ≡ laid_at at (part_of s 0 16) d
    → Begun at (take n s) d out
unfolding part_of
begun_short at n s d out h room e =
    begun_as at (take n (part_of s 0 16)) (take n s) d out (sym (take-take n 16 s h))
    (begun_take at n (part_of s 0 16) d out (omega arith) (begun_laid at (part_of s 0 16) d out (omega (arith, part_at_most s 0 16)) e))

-- Laid one behind the other, two pieces stand as one.
pub begun_on : (at behind : ℕ) (s t d first out : List ℕ) → at + length s ≡ behind → Begun at s d first → Begun behind t first out
    → Begun at (s ++ t) d out
begun_on at behind s t d first out e b c =
    let size : at + length (s ++ t) ≡ behind + length t = omega (arith, length-append s t) in
    record {
      kept = c.kept ∙ b.kept;
      is =
          ap (λ (n : ℕ). take n out) size ∙ c.is
          ∙ ap (λ (r : List ℕ). r ++ t) (ap (λ (n : ℕ). take n first) (sym e) ∙ b.is)
          ∙ append_assoc (take at d) s t;
    }

-- So they do where the first is laid last, exactly.
pub begun_before : (at behind : ℕ) (s t d first out : List ℕ) → at + length s ≡ behind → behind ≤ length d → Begun behind t d first
    → out ≡ laid_at at s first → Begun at (s ++ t) d out
unfolding over
begun_before at behind s t d first out e h b q =
    let cut : length (take behind d) ≡ behind = length-take-le behind d h in
    -- what stands before the place, and what stands behind the first
    let same : take at first ≡ take at d =
    sym (take-take at (behind + length t) first (omega arith)) ∙ ap (take at) b.is ∙ take-append-le at (take behind d) t (omega arith) ∙ take-take at behind d (omega arith) in
    let there : take (length t) (drop behind first) ≡ t =
    sym (drop_at (take behind first) (take (length t) (drop behind first)) behind (length-take-le behind first (omega (arith, b.kept))))
    ∙ ap (drop behind) (sym (take-add behind (length t) first) ∙ b.is)
    ∙ drop_at (take behind d) t behind cut in
    let laid : out ≡ (take at first ++ s) ++ drop behind first =
    q ∙ laid_fits at s first (omega (arith, b.kept))
    ∙ ap (λ (r : List ℕ). take at first ++ (s ++ r)) (drop-drop (length s) at first ∙ ap (λ (n : ℕ). drop n first) e)
    ∙ sym (append_assoc (take at first) s (drop behind first)) in
    let size : at + length (s ++ t) ≡ length (take at first ++ s) + length t =
    omega (arith, length-append s t, length-append (take at first) s, length-take-le at first (omega (arith, b.kept))) in
    record {
      kept = ap length q ∙ laid_length at s first ∙ b.kept;
      is =
          ap₂ take size laid ∙ take-append-add (take at first ++ s) (drop behind first) (length t)
          ∙ ap₂ (λ (p r : List ℕ). (p ++ s) ++ r) same there
          ∙ append_assoc (take at d) s t;
    }

-- At the start of a buffer the octets are what it starts with.
pub begun_first : (n : ℕ) (s d out : List ℕ) → length s ≡ n → Begun 0 s d out → take n out ≡ s
begun_first n s d out e b =
    let size : n ≡ 0 + length s = omega arith in
    ap (λ (k : ℕ). take k out) size ∙ b.is
