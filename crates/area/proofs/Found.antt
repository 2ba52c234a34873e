-- What stands at a place of an area, one law for each answer. Assumes nothing.
use mathlib.Core.Path.{◌≡◌, refl, ap, ◌∙◌}
use mathlib.Core.Bool.{Bool, true, false, ◌&&◌}
use mathlib.Core.List.{List, ◌∷◌}
use Prim.Native.Nat.{ℕ, suc, ◌+◌, ◌-◌, ◌<◌, ◌≤◌}
use native.Mathlib.Omega.{arith}
use lib.Dec.{leb, eqb}
use lib.ListN.{length, drop, get_or, length-drop, drop_of_length-le}
use lib.Seq.{drop-cons, get_or-drop}
use borrow.Author.Tests.{lt-ltb, le-ltb, le-leb, eq-eqb, ne_eqb, leb-true, eqb-true}
use Rattle.meaning.specs.Octets.{number_of}
use Rattle.meaning.specs.Framing.{gpp, vendor3gpp, attribute, refused, nothing, one_sub, vendor_found, found, found_at}
use Rattle.octets.specs.Parts.{part_of}

-- a sub-attribute's layout that is broken
not_one_sub : (n m : ℕ) → (2 ≤ m → m ≤ 248 → m ≡ n - 6 → ⊥) → one_sub n m ≡ false
unfolding one_sub
not_one_sub n m h = go (leb 2 m) (leb m 248) (eqb m (n - 6)) refl refl refl
  where
    go : (x y z : Bool) → leb 2 m ≡ x → leb m 248 ≡ y → eqb m (n - 6) ≡ z → x && (y && z) ≡ false
    go true true true p q r = absurd (h (leb-true 2 m p) (leb-true m 248 q) (eqb-true m (n - 6) r))
    go true true false p q r = refl
    go true false z p q r = refl
    go false y z p q r = refl

-- one that holds
one_sub_lem : (n m : ℕ) → 2 ≤ m → m ≤ 248 → m ≡ n - 6 → one_sub n m ≡ true
unfolding one_sub
one_sub_lem n m p q r = simp (le-leb 2 m p, le-leb m 248 q, eq-eqb m (n - 6) r)

-- 7: a type 26 that has no octet behind the vendor id
pub vendor_short : (n : ℕ) (r : List ℕ) → n < 7 → vendor_found n r ≡ refused 7
unfolding vendor_found
vendor_short n r h = simp (lt-ltb n 7 h)

-- Type 26 with length n, at a place of the area l.
module _ (l : List ℕ) (place n : ℕ) where
  -- an octet behind the length octet
  behind : (j k : ℕ) → place + 2 + j ≡ k → get_or (drop (place + 2) l) j 0 ≡ get_or l k 0
  behind j k e = get_or-drop (place + 2) l j 0 ∙ ap (λ (i : ℕ). get_or l i 0) e

  module _ (long : 7 ≤ n) where
    -- another vendor's
    pub vendor_other : (number_of (part_of l (place + 2) 4) ≡ vendor3gpp → ⊥) → vendor_found n (drop (place + 2) l) ≡ attribute 26 2 n
    unfolding vendor_found part_of
    vendor_other v = simp (le-ltb n 7 long, ne_eqb (number_of (part_of l (place + 2) 4)) vendor3gpp v)

    module _ (id : number_of (part_of l (place + 2) 4) ≡ vendor3gpp) where
      -- 8: "sub-attribute layout broken"
      pub vendor_broken :
          (2 ≤ get_or l (place + 7) 0 → get_or l (place + 7) 0 ≤ 248 → get_or l (place + 7) 0 ≡ n - 6 → ⊥)
          → vendor_found n (drop (place + 2) l) ≡ refused 8
      unfolding vendor_found part_of
      vendor_broken f =
          simp
          (le-ltb n 7 long, eq-eqb (number_of (part_of l (place + 2) 4)) vendor3gpp id, behind 5 (place + 7) (omega arith), not_one_sub n (get_or l (place + 7) 0) f)

      -- a 3GPP sub-attribute
      pub vendor_sub :
          2 ≤ get_or l (place + 7) 0 → get_or l (place + 7) 0 ≤ 248 → get_or l (place + 7) 0 ≡ n - 6
          → vendor_found n (drop (place + 2) l) ≡ attribute (gpp (get_or l (place + 6) 0)) 8 n
      unfolding vendor_found part_of
      vendor_sub a b e =
          simp
          (le-ltb n 7 long, eq-eqb (number_of (part_of l (place + 2) 4)) vendor3gpp id, behind 5 (place + 7) (omega arith), behind 4 (place + 6) (omega arith), one_sub_lem n (get_or l (place + 7) 0) a b e)

-- two octets or more from a place on
drop_two : (l : List ℕ) (place : ℕ) → place + 1 < length l → drop place l ≡ get_or l place 0 ∷ get_or l (place + 1) 0 ∷ drop (place + 2) l
drop_two l place h =
    let p : place < length l = omega arith in
    let q : suc place < length l = omega arith in
    let e : place + 1 ≡ suc place = omega arith in
    let f : place + 2 ≡ suc (suc place) = omega arith in
    rw (e, f, drop-cons l place 0, drop-cons l (suc place) 0)

-- A place of the area l.
module _ (l : List ℕ) (place : ℕ) where
  -- the area's end
  pub found_nothing : length l ≤ place → found_at l place ≡ nothing
  unfolding found found_at
  found_nothing h = ap found (drop_of_length-le l h)

  -- 4: "one octet left"
  pub found_one_octet : place + 1 ≡ length l → found_at l place ≡ refused 4
  unfolding found found_at
  found_one_octet h =
      let p : place < length l = omega arith in
      ap found (drop-cons l place 0 p ∙ ap (λ (r : List ℕ). get_or l place 0 ∷ r) (drop_of_length-le l {i = suc place} (omega arith)))

  module _ (two : place + 1 < length l) where
    left : length (drop (place + 2) l) + 2 ≡ length l - place
    left = omega (arith, length-drop (place + 2) l)

    -- 5: "length octet below 2"
    pub found_low : get_or l (place + 1) 0 < 2 → found_at l place ≡ refused 5
    unfolding found found_at
    found_low n = rw (drop_two l place two) (simp (lt-ltb _ _ n))

    -- 6: the attribute goes on behind the area
    pub found_past : 2 ≤ get_or l (place + 1) 0 → length l < place + get_or l (place + 1) 0 → found_at l place ≡ refused 6
    unfolding found found_at
    found_past n m =
        rw (drop_two l place two, left)
        (simp (le-ltb _ _ n, lt-ltb (length l - place) (get_or l (place + 1) 0) (omega arith)))

    module _ (low : 2 ≤ get_or l (place + 1) 0) (inside : place + get_or l (place + 1) 0 ≤ length l) where
      -- type 26
      pub found_vendor : get_or l place 0 ≡ 26 → found_at l place ≡ vendor_found (get_or l (place + 1) 0) (drop (place + 2) l)
      unfolding found found_at
      found_vendor t =
          rw (drop_two l place two, left)
          (simp (le-ltb _ _ low, le-ltb (length l - place) (get_or l (place + 1) 0) (omega arith), eq-eqb _ _ t))

      -- another type
      pub found_plain : (get_or l place 0 ≡ 26 → ⊥) → found_at l place ≡ attribute (get_or l place 0) 2 (get_or l (place + 1) 0)
      unfolding found found_at
      found_plain t =
          rw (drop_two l place two, left)
          (simp (le-ltb _ _ low, le-ltb (length l - place) (get_or l (place + 1) 0) (omega arith), ne_eqb _ _ t))
