-- Laws of a part of octets: its length, its octets by their places, and that it holds octets. Assumes nothing.
use mathlib.Core.Path.{◌≡◌, refl, sym, ap, ◌∙◌}
use mathlib.Core.List.{List, [], ◌∷◌}
use Prim.Native.Nat.{ℕ, zero, suc, ◌+◌, ◌-◌, ◌^◌, ◌<◌, ◌≤◌, min}
use native.Mathlib.Nat.{pow-le-pow_right, add-zero}
use native.Mathlib.Omega.{arith}
use mir.Syntax.{w8}
use mir.Val.{Fits}
use lib.ListN.{length, take, drop, get_or, length-take, length-drop, drop_of_length-le}
use lib.Seq.{take_all, take-nil, drop-cons}
use Rattle.meaning.specs.Octets.{Octets}
use Rattle.meaning.proofs.Octets.{octets_take, octets_drop}
use Rattle.octets.specs.Parts.{part_of}

-- a part is no longer than was asked for, nor than what there is
pub part_length : (l : List ℕ) (at n : ℕ) → length (part_of l at n) ≡ min n (length l - at)
unfolding part_of
part_length l at n = length-take n (drop at l) ∙ ap (min n) (length-drop at l)

pub part_within : (l : List ℕ) (at n : ℕ) → at + n ≤ length l → length (part_of l at n) ≡ n
part_within l at n h = part_length l at n ∙ omega arith

pub part_at_most : (l : List ℕ) (at n : ℕ) → length (part_of l at n) ≤ n
part_at_most l at n = omega (arith, part_length l at n)

-- past the end there is nothing
pub part_past : (l : List ℕ) (at n : ℕ) → length l ≤ at → part_of l at n ≡ []
unfolding part_of
part_past l at n h = ap (take n) (drop_of_length-le l h) ∙ take-nil n

-- where more is asked for than there is, it is the rest
pub part_rest : (l : List ℕ) (at n : ℕ) → length l - at ≤ n → part_of l at n ≡ drop at l
unfolding part_of
part_rest l at n h = take_all n (drop at l) (omega (arith, length-drop at l))

pub part_to_end : (l : List ℕ) (at n : ℕ) → length l - at ≤ n → take (length l - at) (drop at l) ≡ part_of l at n
part_to_end l at n h = take_all (length l - at) (drop at l) (omega (arith, length-drop at l)) ∙ sym (part_rest l at n h)

-- the octets of l from the place at + k on, by their places
abbrev pub placed : (l : List ℕ) (at k n : ℕ) → List ℕ
placed l at k zero = []
placed l at k (suc n) = get_or l (at + k) 0 ∷ placed l at (suc k) n

placed_part : (l : List ℕ) (at k n : ℕ) → at + (k + n) ≤ length l → placed l at k n ≡ part_of l (at + k) n
unfolding part_of
placed_part l at k zero h = refl
placed_part l at k (suc n) h =
    let next : at + suc k ≡ suc (at + k) = omega arith in
    ap (λ (m : List ℕ). get_or l (at + k) 0 ∷ m) (placed_part l at (suc k) n (omega arith) ∙ ap (λ (i : ℕ). take n (drop i l)) next)
    ∙ sym (ap (take (suc n)) (drop-cons l (at + k) 0 (omega arith)))

-- A part that is there has its octets one behind the other.
pub part_placed : (l : List ℕ) (at n : ℕ) → at + n ≤ length l → placed l at 0 n ≡ part_of l at n
part_placed l at n h = placed_part l at 0 n (omega arith) ∙ ap (λ (i : ℕ). part_of l i n) (add-zero at)

pub all_placed : (l : List ℕ) (n : ℕ) → length l ≡ n → placed l 0 0 n ≡ l
all_placed l n e = part_placed l 0 n (omega arith) ∙ part_rest l 0 n (omega arith)

-- a slice holds octets, by what is known of its elements
pub slice_octets : (l : List ℕ) → ((i : ℕ) → Fits w8 (get_or l i 0)) → Octets l
slice_octets [] known = tt
slice_octets (x ∷ l) known = (omega (arith, known 0), slice_octets l (λ i. known (suc i)))

-- a part of octets holds octets
pub part_octets : (l : List ℕ) (at n : ℕ) → Octets l → Octets (part_of l at n)
unfolding part_of
part_octets l at n o = octets_take n (drop at l) (octets_drop at l o)

-- a number as wide as a part is no wider than was asked for
pub part_narrows : (l p : List ℕ) (at w r : ℕ) → p ≡ part_of l at w → r < 256 ^ length p → r < 256 ^ w
part_narrows l p at w r e h =
    let q : 256 ^ length p ≤ 256 ^ w = pow-le-pow_right {n = 256} (omega arith) (omega (arith, ap length e, part_at_most l at w)) in
    omega arith

-- each place of a part of octets holds an octet
pub part_octet : (l : List ℕ) → ((i : ℕ) → Fits w8 (get_or l i 0)) → (at n i : ℕ) → get_or (part_of l at n) i 0 < 256
part_octet l known at n i = octet (part_of l at n) (part_octets l at n (slice_octets l known)) i
  where
    octet : (m : List ℕ) → Octets m → (i : ℕ) → get_or m i 0 < 256
    octet [] o i = omega arith
    octet (x ∷ m) o zero = o.0
    octet (x ∷ m) o (suc i) = octet m o.1 i
