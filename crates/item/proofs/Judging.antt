-- What the tests of an item say, one answer at a time. Assumes nothing.
use mathlib.Core.Path.{◌≡◌, refl, sym, ap, ◌∙◌}
use mathlib.Core.Bool.{Bool, true, false, cond, not, ◌&&◌, and-false}
use mathlib.Core.List.{List}
use Prim.Native.Nat.{ℕ, ◌-◌, ◌<◌, ◌≤◌}
use native.Mathlib.Omega.{arith}
use lib.Dec.{eqb, leb, ltb}
use borrow.Author.Tests.{lt-ltb, le-ltb, le-leb, lt-leb, eq-eqb, ne_eqb, eqb-true, eqb-false, ltb-true, ltb-false}
use lib.ListN.{length}
use Rattle.meaning.specs.Versions.{current}
use Rattle.meaning.specs.Octets.{number_of}
use Rattle.meaning.specs.Framing.{gpp, is_plain, vendor3gpp, carries}
use Rattle.meaning.specs.Shapes.{shape_of, meets}
use Rattle.meaning.specs.Sheet.{sub_of, number_in, stored_length}
use Rattle.meaning.proofs.Tests.{not_both}
use Rattle.octets.specs.Parts.{part_of}
use Rattle.shape.specs.Codes.{code_of, shape_by}
use Rattle.item.specs.Stands.{other_vendor, raw, shaped, stands_for, stands_as}
use Rattle.item.proofs.Standing.{raw_stands, shaped_stands}

-- ---- Another vendor's

pub vendor_short : (v : List ℕ) → length v < 5 → false ≡ other_vendor v
unfolding other_vendor
vendor_short v h = rw (lt-leb 5 (length v) h)

pub vendor_id : (v : List ℕ) (id : ℕ) → 5 ≤ length v → id ≡ number_of (part_of v 0 4) → not (eqb id vendor3gpp) ≡ other_vendor v
unfolding other_vendor part_of
vendor_id v id h e = rw (le-leb 5 (length v) h, e)

-- ---- What an attribute carries

module _ (n : ℕ) (v : List ℕ) where
  pub carries_3gpp : 256 ≤ n → leb (length v) 246 ≡ carries n v
  unfolding carries
  carries_3gpp h = rw (le-ltb n 256 h)

  pub carries_long : n < 256 → 253 < length v → false ≡ carries n v
  unfolding carries
  carries_long h g = rw (lt-ltb n 256 h, lt-leb (length v) 253 g)

  pub carries_plain : n < 256 → length v ≤ 253 → (n ≡ 26 → ⊥) → true ≡ carries n v
  unfolding carries
  carries_plain h g e = rw (lt-ltb n 256 h, le-leb (length v) 253 g, ne_eqb n 26 e)

  pub carries_vendor : length v ≤ 253 → n ≡ 26 → other_vendor v ≡ carries n v
  unfolding carries other_vendor
  carries_vendor g e = rw (e, le-leb (length v) 253 g)

-- ---- The number of a head

module _ (t s f : ℕ) where
  pub number_plain : (t ≡ 26 → ⊥) → t ≡ number_in t s f
  number_plain h = rw (ne_eqb t 26 h)

-- ---- Forms 0 and 1

module _ (n code f : ℕ) (v : List ℕ) where
  -- in another form than 0 for a plain number and 1 for a 3GPP one
  pub raw_other : (f ≡ cond (is_plain n) 0 1 → ⊥) → false ≡ raw n code f v
  unfolding raw
  raw_other h = rw (ne_eqb (cond (is_plain n) 0 1) f (λ e. h (sym e)))

  -- a value that meets a shape with a form of its own
  pub raw_met : 20 ≤ code → meets current (shape_by code) v ≡ true → false ≡ raw n code f v
  unfolding raw
  raw_met h m = rw (le-leb 20 code h, m) (sym (and-false (eqb (cond (is_plain n) 0 1) f)))

  -- one that misses its shape, and one whose shape has no form of its own
  pub raw_missed : f ≡ cond (is_plain n) 0 1 → meets current (shape_by code) v ≡ false → carries n v ≡ raw n code f v
  unfolding raw
  raw_missed p m = rw (eq-eqb (cond (is_plain n) 0 1) f (sym p), m, and-false (leb 20 code))

  pub raw_formless : f ≡ cond (is_plain n) 0 1 → code < 20 → carries n v ≡ raw n code f v
  unfolding raw
  raw_formless p h = rw (eq-eqb (cond (is_plain n) 0 1) f (sym p), lt-leb 20 code h)

-- ---- The item

module _ (t s f c : ℕ) (st : List ℕ) (octet : t < 256) (long : length st ≡ stored_length current f c) (n : ℕ) (is : n ≡ number_in t s f) where
  -- the number of a 3GPP item tells its sub-attribute number
  sub_3gpp : 256 ≤ n → n ≡ gpp s
  sub_3gpp h = go (eqb t 26 && not (eqb f 0)) refl
    where
      go : (b : Bool) → eqb t 26 && not (eqb f 0) ≡ b → n ≡ gpp s
      go true e = is ∙ rw e
      go false e = absurd (let g : n ≡ t = is ∙ rw e in omega arith)

  sub_fits : ltb n 256 && not (eqb s 0) ≡ false → eqb (sub_of n) s ≡ true
  sub_fits h = go (ltb n 256) (eqb s 0) refl refl h
    where
      go : (a b : Bool) → ltb n 256 ≡ a → eqb s 0 ≡ b → a && not b ≡ false → eqb (cond a 0 (n - 256)) s ≡ true
      go true true p q e = eq-eqb 0 s (sym (eqb-true s 0 q))
      go true false p q e = not_both e
      go false b p q e = eq-eqb (n - 256) s (omega (arith, sub_3gpp (ltb-false n 256 p)))

  sub_bad : ltb n 256 && not (eqb s 0) ≡ true → eqb (sub_of n) s ≡ false
  sub_bad h = go (ltb n 256) (eqb s 0) refl h
    where
      go : (a b : Bool) → eqb s 0 ≡ b → a && not b ≡ true → eqb (cond a 0 (n - 256)) s ≡ false
      go true true q e = not_both (sym e)
      go true false q e = ne_eqb 0 s (λ g. eqb-false s 0 q (sym g))
      go false b q e = not_both (sym e)

  by_raw : f < 2 → stands_for t s f c st ≡ eqb (sub_of n) s && raw n (code_of (shape_of n)) f st
  by_raw low = raw_stands t s f c st octet long (omega arith) ∙ ap (λ (k : ℕ). eqb (sub_of k) s && raw k (code_of (shape_of k)) f st) (sym is)

  by_shape : 2 ≤ f → stands_for t s f c st ≡ eqb (sub_of n) s && shaped (shape_of n) f c st
  by_shape high = shaped_stands t s f c st octet long high ∙ ap (λ (k : ℕ). eqb (sub_of k) s && shaped (shape_of k) f c st) (sym is)

  pub sub_wrong : ltb n 256 && not (eqb s 0) ≡ true → false ≡ stands_for t s f c st
  sub_wrong h = go (ltb f 2) refl
    where
      go : (b : Bool) → ltb f 2 ≡ b → false ≡ stands_for t s f c st
      go true e = sym (by_raw (ltb-true f 2 e) ∙ ap (λ (a : Bool). a && raw n (code_of (shape_of n)) f st) (sub_bad h))
      go false e = sym (by_shape (ltb-false f 2 e) ∙ ap (λ (a : Bool). a && shaped (shape_of n) f c st) (sub_bad h))

  pub stands_as_lem : ltb n 256 && not (eqb s 0) ≡ false → stands_as n f c st ≡ stands_for t s f c st
  unfolding stands_as
  stands_as_lem h = go (ltb f 2) refl
    where
      go : (b : Bool) → ltb f 2 ≡ b → cond b (raw n (code_of (shape_of n)) f st) (shaped (shape_of n) f c st) ≡ stands_for t s f c st
      go true e = sym (by_raw (ltb-true f 2 e) ∙ ap (λ (a : Bool). a && raw n (code_of (shape_of n)) f st) (sub_fits h))
      go false e = sym (by_shape (ltb-false f 2 e) ∙ ap (λ (a : Bool). a && shaped (shape_of n) f c st) (sub_fits h))
