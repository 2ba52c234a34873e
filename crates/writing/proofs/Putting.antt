-- What the writers of an attribute lay over a buffer: its head, and the text of a QoS profile; and the mark of a sheet. Assumes
-- nothing.
use mathlib.Core.Path.{◌≡◌, refl, sym, ap, ◌∙◌}
use mathlib.Core.Bool.{Bool, true, false, cond}
use mathlib.Core.List.{List, [], ◌∷◌, ◌++◌, append_assoc}
use Prim.Native.Nat.{ℕ, zero, suc, ◌+◌, ◌*◌, ◌-◌, ◌/◌, ◌%◌, ◌<◌, ◌≤◌}
use native.Mathlib.Nat.{zero-add, suc-add}
use native.Mathlib.Omega.{arith}
use lib.Dec.{ltb}
use borrow.Author.Tests.{lt-ltb, le-ltb, lt-leb}
use lib.ListN.{length, take, drop, get_or, set, length-drop, length-set}
use lib.Seq.{take_all, take-suc, length-take-le}
use Rattle.meaning.specs.Octets.{digit_text, text, unpack, octets_of}
use Rattle.meaning.specs.Framing.{head_length, attribute_octets, vendor3gpp}
use Rattle.meaning.specs.Sheet.{marked}
use Rattle.meaning.proofs.Framing.{head_two}
use Rattle.octets.specs.Parts.{laid_at, Begun}
use Rattle.octets.proofs.Overs.{each_laid, laid_two}
use Rattle.octets.proofs.Begun.{begun_laid, begun_on}
use Rattle.item.proofs.Texts.{whole_length}
use Rattle.writing.specs.Attributes.{attribute_front, lengths_at, profile_text}

-- ---- Octets that stand at a place of a buffer

-- One stands there with the octet behind it.
begun_one : (at x : ℕ) (d out : List ℕ) → at + 2 ≤ length d → out ≡ laid_at at (x ∷ []) d → Begun at (x ∷ get_or out (at + 1) 0 ∷ []) d out
begun_one at x d out room e =
    let b = begun_laid at (x ∷ []) d out (omega arith) e in
    let two : at + 2 ≡ suc (at + 1) = omega arith in
    record {
      kept = b.kept;
      is = ap (λ (k : ℕ). take k out) two ∙ take-suc out (at + 1) 0 (omega (arith, b.kept)) ∙ ap (λ (l : List ℕ). l ++ (get_or out (at + 1) 0 ∷ [])) b.is
          ∙ append_assoc (take at d) (x ∷ []) (get_or out (at + 1) 0 ∷ []);
    }

take_set : (n : ℕ) (l : List ℕ) (i x : ℕ) → take n (set l i x) ≡ set (take n l) i x
take_set zero l i x = refl
take_set (suc n) [] i x = refl
take_set (suc n) (y ∷ l) zero x = refl
take_set (suc n) (y ∷ l) (suc i) x = ap (λ (r : List ℕ). y ∷ r) (take_set n l i x)

set_behind : (s t : List ℕ) (i x : ℕ) → set (s ++ t) (length s + i) x ≡ s ++ set t i x
set_behind [] t i x = ap (λ (k : ℕ). set t k x) (zero-add i)
set_behind (y ∷ s) t i x = ap (λ (k : ℕ). set (y ∷ (s ++ t)) k x) (suc-add (length s) i) ∙ ap (λ (r : List ℕ). y ∷ r) (set_behind s t i x)

-- Where one of them is stored again, the others stand as they did.
begun_set : (at : ℕ) (s d out : List ℕ) (i x : ℕ) → at ≤ length d → Begun at s d out → Begun at (set s i x) d (set out (at + i) x)
begun_set at s d out i x h b =
    record {
      kept = length-set out (at + i) x ∙ b.kept;
      is = ap (λ (k : ℕ). take (at + k) (set out (at + i) x)) (length-set s i x) ∙ take_set (at + length s) out (at + i) x ∙ ap (λ (l : List ℕ). set l (at + i) x) b.is
          ∙ ap (λ (k : ℕ). set (take at d ++ s) (k + i) x) (sym (length-take-le at d h))
          ∙ set_behind (take at d) s i x;
    }

-- ---- The head of an attribute

pub plain_front : (n at : ℕ) (d : List ℕ) → n < 256 → at + head_length n ≤ length d → set d at n ≡ laid_at at (attribute_front n) d
unfolding attribute_front octets_of
plain_front n at d h room = each_laid at (n ∷ []) d (omega (arith, head_two n)) 0 refl ∙ rw (lt-ltb n 256 h)

pub gpp_front : (n at : ℕ) (id d out : List ℕ) → 256 ≤ n → id ≡ octets_of 4 vendor3gpp
    → out ≡ laid_at at (26 ∷ 0 ∷ get_or id 0 0 ∷ get_or id 1 0 ∷ get_or id 2 0 ∷ get_or id 3 0 ∷ (n - 256) ∷ 0 ∷ []) d
    → out ≡ laid_at at (attribute_front n) d
unfolding attribute_front octets_of
gpp_front n at id d out h q e = e ∙ rw (q, le-ltb n 256 h)

-- The front, the value behind it and then the lengths: the attribute stands there.
pub attribute_stands : (n k at : ℕ) (v d front first out : List ℕ) → k ≡ length v → at + head_length n ≤ length d
    → front ≡ laid_at at (attribute_front n) d → Begun (at + head_length n) v front first → out ≡ lengths_at at (head_length n) k first
    → Begun at (attribute_octets n v) d out
unfolding attribute_front attribute_octets octets_of lengths_at head_length
attribute_stands n k at v d front first out long room f w e = rw (sym long) (go (ltb n 256) room f w e)
  where
    go :
        (b : Bool) → at + cond b 2 8 ≤ length d
        → front ≡ laid_at at (cond b (n ∷ []) (26 ∷ 0 ∷ octets_of 4 vendor3gpp ++ (n - 256) ∷ 0 ∷ [])) d
        → Begun (at + cond b 2 8) v front first → out ≡ set (set first (at + cond b 2 8 - 1) (k + 2)) (at + 1) (k + cond b 2 8)
        → Begun at (cond b (n ∷ (k + 2) ∷ v) (26 ∷ (k + 8) ∷ octets_of 4 vendor3gpp ++ (n - 256) ∷ (k + 2) ∷ v)) d out
    go true room f w e =
        let x : ℕ = get_or front (at + 1) 0 in
        let last : at + 2 - 1 ≡ at + 1 = omega arith in
        let b = begun_on at (at + 2) (n ∷ x ∷ []) v d front first refl (begun_one at n d front room f) w in
        rw (e, last) (begun_set at (n ∷ (k + 2) ∷ v) d _ 1 (k + 2) (omega arith) (begun_set at (n ∷ x ∷ v) d first 1 (k + 2) (omega arith) b))
    go false room f w e =
        let s : List ℕ = 26 ∷ 0 ∷ octets_of 4 vendor3gpp ++ (n - 256) ∷ 0 ∷ [] in
        let last : at + 8 - 1 ≡ at + 7 = omega arith in
        let b = begun_on at (at + 8) s v d front first refl (begun_laid at s d front room f) w in
        rw (e, last) (begun_set at (26 ∷ 0 ∷ octets_of 4 vendor3gpp ++ (n - 256) ∷ (k + 2) ∷ v) d _ 1 (k + 8) (omega arith) (begun_set at (s ++ v) d first 7 (k + 2) (omega arith) b))

-- ---- A QoS profile

-- the release, the dash and the digits behind it
pub profile_laid : (st r : List ℕ) (tens ones at : ℕ) (buf first out : List ℕ) → tens ≡ digit_text (get_or st 0 0 / 10 % 16)
    → ones ≡ digit_text (get_or st 0 0 % 10 % 16) → r ≡ take (length st - 1) (drop 1 st) → 1 ≤ length st
    → at + (1 + 2 * length st) ≤ length buf → first ≡ laid_at at (tens ∷ ones ∷ 45 ∷ []) buf
    → out ≡ laid_at (at + 3) (text (unpack (2 * (length st - 1)) r)) first → out ≡ laid_at at (profile_text st) buf
unfolding profile_text
profile_laid st r tens ones at buf first out t o q some room f h =
    let whole : r ≡ drop 1 st = q ∙ take_all (length st - 1) (drop 1 st) (omega (arith, length-drop 1 st)) in
    let n : length (text (unpack (2 * (length st - 1)) (drop 1 st))) ≡ 2 * (length st - 1) = ap (λ (k : ℕ). length (text (unpack (2 * k) (drop 1 st)))) (sym (length-drop 1 st)) ∙ whole_length (drop 1 st) ∙ ap (λ (k : ℕ). 2 * k) (length-drop 1 st) in
    h ∙ rw (f, whole, t, o)
    (laid_two at 3 (digit_text (get_or st 0 0 / 10 % 16) ∷ digit_text (get_or st 0 0 % 10 % 16) ∷ 45 ∷ []) (text (unpack (2 * (length st - 1)) (drop 1 st))) buf refl (omega arith))

-- ---- The mark

pub unmarked : (l : List ℕ) → length l < 9 → false ≡ marked l
unfolding marked octets_of
unmarked l h = rw (lt-leb 9 (length l) h)
