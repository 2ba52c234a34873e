-- When some readable attribute gives an item: in forms 0 and 1 by the form of the value as it stands, in the others by the shape of
-- the number. Assumes nothing.
use mathlib.Core.Path.{◌≡◌, refl, sym, ap, subst, ◌∙◌}
use mathlib.Core.Logic.{◌⊎◌, inl, inr, ⊎_elim}
use mathlib.Core.Bool.{Bool, true, false, cond, not, ◌&&◌, ◌||◌, and-false}
use mathlib.Core.List.{List, ◌∷◌}
use Prim.Native.Nat.{ℕ, ◌<◌, ◌≤◌}
use native.Mathlib.Omega.{arith}
use lib.Dec.{T, eqb, leb, eqb→eq, leb→le}
use borrow.Author.Tests.{lt-ltb, le-ltb, le-leb, lt-leb, leb-true, leb-false, eq-eqb, ne_eqb, eqb-true}
use lib.ListN.{length, take}
use Rattle.meaning.specs.Versions.{current}
use Rattle.meaning.specs.Octets.{between, all, same, is_digit, is_hex, packed_length, unpack, number_of}
use Rattle.meaning.specs.Framing.{gpp, is_plain, vendor3gpp, carries}
use Rattle.meaning.specs.Shapes.{Shape, number, address, digits, hexadecimal, qos, hex_digit, any_octet, decimal_digit, at_least, exactly}
use Rattle.meaning.specs.Shapes.{blocks, free, plain_shape, shape_of, release, meets}
use Rattle.meaning.specs.Sheet.{type_of, sub_of, form_of, stored_of, value_of, decodes, form, stored, count, item, number_in, stored_length}
use Rattle.meaning.proofs.Tests.{both, parts, either, is_true, passes, same_one, same_itself}
use Rattle.meaning.proofs.Packing.{unpack_length}
use Rattle.meaning.proofs.Forms.{released, raw_low, either_way, Decoded, Plainly}
use Rattle.octets.proofs.EachOne.{same_test}
use Rattle.shape.specs.Codes.{code_of}
use Rattle.shape.proofs.Codes.{shape_back, form_in_code, fifteen, at_most_fifteen}
use Rattle.item.specs.Stands.{stands_for, raw, held, shaped}
use Rattle.item.proofs.Texts.{text_length}

-- ---- The head

type_in : (t s f : ℕ) → t < 256 → type_of (number_in t s f) ≡ t
type_in t s f h = go (eqb t 26) (eqb f 0) refl
  where
    go : (a b : Bool) → eqb t 26 ≡ a → type_of (cond (a && not b) (gpp s) t) ≡ t
    go true true e = rw (lt-ltb t 256 h)
    go true false e = rw (le-ltb (gpp s) 256 (omega arith)) (sym (eqb-true t 26 e))
    go false b e = rw (lt-ltb t 256 h)

-- what an item's octets say, one by one
record Headed (n : ℕ) (v : List ℕ) (t s f c : ℕ) (st : List ℕ) : Type 0 where
  sub_is : sub_of n ≡ s
  form_is : form current n v ≡ f
  count_is : count current n v ≡ c
  stored_is : stored current n v ≡ st

headed : (n : ℕ) (v : List ℕ) (t s f c : ℕ) (st : List ℕ) → item current n v ≡ t ∷ s ∷ f ∷ c ∷ st → Headed n v t s f c st
unfolding item
headed n v t s f c st e = record { sub_is = cc; form_is = cc; count_is = cc; stored_is = cc }

-- and an item that says them
says :
    (n : ℕ) (v : List ℕ) (t s f c : ℕ) (st : List ℕ) → type_of n ≡ t → Headed n v t s f c st
    → T (same (item current n v) (t ∷ s ∷ f ∷ c ∷ st))
unfolding item
says n v t s f c st e h = rw (e, h.sub_is, h.form_is, h.count_is, h.stored_is) (same_itself (t ∷ s ∷ f ∷ c ∷ st))

-- ---- Forms 0 and 1

-- a value in form 0 or 1 is counted and stored as it stands
plainly : (n : ℕ) (v : List ℕ) → form current n v ≤ 1 → (count current n v ≡ length v) × (stored current n v ≡ v)
unfolding count
plainly n v h = go (either_way current n v)
  where
    go :
        Decoded current n v ⊎ Plainly current n v
        → (cond (eqb (form current n v) 4) (length v) (length (stored current n v)) ≡ length v) × (stored current n v ≡ v)
    go (inl d) = absurd (let g : 2 ≤ form_of (shape_of n) = leb→le 2 _ d.own in let e = d.form_is in omega arith)
    go (inr p) = (rw (ne_eqb (form current n v) 4 (λ e. omega arith), p.stored_is), p.stored_is)

-- the shapes with a form of their own have the codes from 20 on
own_code : (s : Shape) → leb 20 (code_of s) ≡ leb 2 (form_of s)
own_code s = go (leb 20 (code_of s)) refl
  where
    go : (b : Bool) → leb 20 (code_of s) ≡ b → b ≡ leb 2 (form_of s)
    go true e = sym (le-leb 2 (form_of s) (omega (arith, form_in_code s, leb-true 20 (code_of s) e)))
    go false e = sym (lt-leb 2 (form_of s) (omega (arith, form_in_code s, leb-false 20 (code_of s) e)))

-- a value stands as it is where its form is 0 or 1 and an attribute carries it
raw_formed : (n f : ℕ) (v : List ℕ) → f ≤ 1 → eqb (form current n v) f && carries n v ≡ raw n (code_of (shape_of n)) f v
unfolding form decodes raw
raw_formed n f v low = rw (own_code (shape_of n), shape_back n) (go (leb 2 (form_of (shape_of n)) && meets current (shape_of n) v) refl)
  where
    go : (b : Bool) → leb 2 (form_of (shape_of n)) && meets current (shape_of n) v ≡ b
        → eqb (cond b (form_of (shape_of n)) (cond (is_plain n) 0 1)) f && carries n v ≡ eqb (cond (is_plain n) 0 1) f && (not b && carries n v)
    go false e = refl
    go true e =
        let own : 2 ≤ form_of (shape_of n) =
        leb→le 2 (form_of (shape_of n)) (parts (leb 2 (form_of (shape_of n))) (meets current (shape_of n) v) (passes _ e)).0 in
        rw (ne_eqb (form_of (shape_of n)) f (λ g. omega arith)) (sym (and-false (eqb (cond (is_plain n) 0 1) f)))

module _ (t s f c : ℕ) (st : List ℕ) (octet : t < 256) (long : length st ≡ stored_length current f c) where
  -- the number that the head names
  abbrev named : ℕ
  named = number_in t s f

  pub raw_stands : f ≤ 1 → stands_for t s f c st ≡ eqb (sub_of named) s && raw named (code_of (shape_of named)) f st
  unfolding stands_for
  raw_stands low = rw (le-leb f 1 low) (same_test _ _ there back) ∙ ap (λ (b : Bool). eqb (sub_of named) s && b) (raw_formed named f st low)
    where
      there : T (carries named st && same (item current named st) (t ∷ s ∷ f ∷ c ∷ st))
          → T (eqb (sub_of named) s && (eqb (form current named st) f && carries named st))
      there p =
          let q = parts (carries named st) (same (item current named st) (t ∷ s ∷ f ∷ c ∷ st)) p in
          let h = headed named st t s f c st (same_one (item current named st) (t ∷ s ∷ f ∷ c ∷ st) q.1) in
          both (eqb (sub_of named) s) _ (passes _ (eq-eqb (sub_of named) s h.sub_is))
          (both (eqb (form current named st) f) (carries named st) (passes _ (eq-eqb (form current named st) f h.form_is)) q.0)

      back : T (eqb (sub_of named) s && (eqb (form current named st) f && carries named st))
          → T (carries named st && same (item current named st) (t ∷ s ∷ f ∷ c ∷ st))
      back p =
          let q = parts (eqb (sub_of named) s) (eqb (form current named st) f && carries named st) p in
          let r = parts (eqb (form current named st) f) (carries named st) q.1 in
          let e : form current named st ≡ f = eqb→eq (form current named st) f r.0 in
          let k = plainly named st (omega arith) in
          let n : length st ≡ c = long ∙ rw (ne_eqb f 4 (λ g. omega arith)) in
          both (carries named st) (same (item current named st) (t ∷ s ∷ f ∷ c ∷ st)) r.1
          (says named st t s f c st (type_in t s f octet) (record { sub_is = eqb→eq (sub_of named) s q.0; form_is = e; count_is = k.0 ∙ n; stored_is = k.1 }))

-- ---- Forms 2 to 7

-- A value that meets a shape with a form of its own is short, where a shape of digits asks for fifteen at most.
short_value : (s : Shape) (v : List ℕ) → T (fifteen s) → T (leb 2 (form_of s)) → T (meets current s v) → length v ≤ 246
unfolding form_of meets
short_value number v d f t = omega (arith, eqb→eq (length v) 4 t)
short_value address v d f t = omega (arith, eqb→eq (length v) 4 t)
short_value (digits a b) v d f t =
    let g : b ≤ 15 = leb→le b 15 (parts (leb 1 a) (leb b 15) d).1 in
    let h : length v ≤ b =
    leb→le (length v) b (parts (leb a (length v)) (leb (length v) b) (parts (between a b (length v)) (all is_digit v) t).0).1 in
    omega arith
short_value hexadecimal v d f t = omega (arith, eqb→eq (length v) 16 (parts (eqb (length v) 16) (all is_hex v) t).0)
short_value qos v d f t =
    ⊎_elim (λ u. omega (arith, (released current 57 56 6 v u).long)) (λ u. omega (arith, (released current 57 57 22 v u).long)) (either (release current 57 56 6 v) (release current 57 57 22 v) t)
short_value hex_digit v d f t = omega (arith, eqb→eq (length v) 1 (parts (eqb (length v) 1) (all is_hex v) t).0)
short_value any_octet v d f t = omega (arith, eqb→eq (length v) 1 t)
short_value decimal_digit v d f t = omega (arith, eqb→eq (length v) 1 (parts (eqb (length v) 1) (all is_digit v) t).0)
short_value (at_least n) v d f t = absurd f
short_value (exactly n) v d f t = absurd f
short_value blocks v d f t = absurd f
short_value free v d f t = absurd f

no_form_26 : T (leb 2 (form_of (shape_of 26))) → ⊥
unfolding form_of shape_of plain_shape
no_form_26 t = t

-- so a readable attribute carries it
short_carried : (n : ℕ) (v : List ℕ) → T (leb 2 (form_of (shape_of n))) → length v ≤ 246 → T (carries n v)
unfolding carries
short_carried n v f h = go (is_plain n)
  where
    plain : not (eqb n 26) ≡ true
    plain = rw (ne_eqb n 26 (λ e. no_form_26 (subst (λ (k : ℕ). T (leb 2 (form_of (shape_of k)))) e f)))

    go : (b : Bool)
        → T (cond b (leb (length v) 253 && (not (eqb n 26) || (leb 5 (length v) && not (eqb (number_of (take 4 v)) vendor3gpp))))
        (leb (length v) 246))
    go true = rw (le-leb (length v) 253 (omega arith), plain) tt
    go false = passes _ (le-leb (length v) 246 h)

-- In form 4 the value has as many digits as are counted.
digits_counted : (s : Shape) (c : ℕ) (st : List ℕ) → form_of s ≡ 4 → length st ≡ packed_length c → length (value_of current s c st) ≡ c
unfolding form_of value_of
digits_counted number c st e n = absurd (omega arith)
digits_counted address c st e n = absurd (omega arith)
digits_counted (digits a b) c st e n = text_length (unpack c st) ∙ unpack_length c st n
digits_counted hexadecimal c st e n = absurd (omega arith)
digits_counted qos c st e n = absurd (omega arith)
digits_counted hex_digit c st e n = absurd (omega arith)
digits_counted any_octet c st e n = absurd (omega arith)
digits_counted decimal_digit c st e n = absurd (omega arith)
digits_counted (at_least k) c st e n = absurd (omega arith)
digits_counted (exactly k) c st e n = absurd (omega arith)
digits_counted blocks c st e n = absurd (omega arith)
digits_counted free c st e n = absurd (omega arith)

decoded : (n : ℕ) (v : List ℕ) → T (leb 2 (form_of (shape_of n))) → T (meets current (shape_of n) v)
    → (form current n v ≡ form_of (shape_of n)) × (stored current n v ≡ stored_of current (shape_of n) v)
unfolding form stored decodes
decoded n v f t = let e = is_true (leb 2 (form_of (shape_of n)) && meets current (shape_of n) v) (both (leb 2 (form_of (shape_of n))) (meets current (shape_of n) v) f t) in (rw e, rw e)

module _ (t s f c : ℕ) (st : List ℕ) (octet : t < 256) (long : length st ≡ stored_length current f c) where
  -- the number that the head names, and the value that its shape has for the octets
  abbrev numbered : ℕ
  numbered = number_in t s f

  abbrev stood : List ℕ
  stood = value_of current (shape_of numbered) c st

  digits_count : form_of (shape_of numbered) ≡ f → form current numbered stood ≡ f → f ≡ 4 → count current numbered stood ≡ c
  unfolding count
  digits_count fe e g =
      rw (eq-eqb (form current numbered stood) 4 (e ∙ g))
      (digits_counted (shape_of numbered) c st (fe ∙ g) (long ∙ rw (eq-eqb f 4 g)))

  other_count : form current numbered stood ≡ f → stored current numbered stood ≡ st → eqb f 4 ≡ false → count current numbered stood ≡ c
  unfolding count
  other_count e k g = rw (e, g, k) (long ∙ rw g)

  there : 2 ≤ f → T (carries numbered stood && same (item current numbered stood) (t ∷ s ∷ f ∷ c ∷ st))
      → T (eqb (sub_of numbered) s && shaped (shape_of numbered) f c st)
  unfolding shaped held
  there high p =
      let h = headed numbered stood t s f c st (same_one (item current numbered stood) (t ∷ s ∷ f ∷ c ∷ st) (parts (carries numbered stood) (same (item current numbered stood) (t ∷ s ∷ f ∷ c ∷ st)) p).1) in
      both (eqb (sub_of numbered) s) _ (passes _ (eq-eqb (sub_of numbered) s h.sub_is)) (go h (either_way current numbered stood))
    where
      go : Headed numbered stood t s f c st → Decoded current numbered stood ⊎ Plainly current numbered stood
          → T (eqb (form_of (shape_of numbered)) f && (leb 2 (form_of (shape_of numbered))
          && (meets current (shape_of numbered) stood && same (stored_of current (shape_of numbered) stood) st)))
      go h (inl d) =
          both (eqb (form_of (shape_of numbered)) f) _ (passes _ (eq-eqb (form_of (shape_of numbered)) f (sym d.form_is ∙ h.form_is)))
          (both (leb 2 (form_of (shape_of numbered))) _ d.own
          (both (meets current (shape_of numbered) stood) _ d.met (rw (sym d.stored_is ∙ h.stored_is) (same_itself st))))
      go h (inr p) = absurd (let e = p.form_is in let g = h.form_is in omega (arith, raw_low (is_plain numbered)))

  back : 2 ≤ f → T (eqb (sub_of numbered) s && shaped (shape_of numbered) f c st)
      → T (carries numbered stood && same (item current numbered stood) (t ∷ s ∷ f ∷ c ∷ st))
  unfolding shaped held
  back high p =
      let q = parts (eqb (sub_of numbered) s) (eqb (form_of (shape_of numbered)) f && (leb 2 (form_of (shape_of numbered)) && (meets current (shape_of numbered) stood && same (stored_of current (shape_of numbered) stood) st))) p in
      let r = parts (eqb (form_of (shape_of numbered)) f) (leb 2 (form_of (shape_of numbered)) && (meets current (shape_of numbered) stood && same (stored_of current (shape_of numbered) stood) st)) q.1 in
      let u = parts (leb 2 (form_of (shape_of numbered))) (meets current (shape_of numbered) stood && same (stored_of current (shape_of numbered) stood) st) r.1 in
      let w = parts (meets current (shape_of numbered) stood) (same (stored_of current (shape_of numbered) stood) st) u.1 in
      let fe : form_of (shape_of numbered) ≡ f = eqb→eq (form_of (shape_of numbered)) f r.0 in
      let se : stored_of current (shape_of numbered) stood ≡ st = same_one (stored_of current (shape_of numbered) stood) st w.1 in
      let d = decoded numbered stood u.0 w.0 in
      both (carries numbered stood) (same (item current numbered stood) (t ∷ s ∷ f ∷ c ∷ st))
      (short_carried numbered stood u.0 (short_value (shape_of numbered) stood (at_most_fifteen numbered) u.0 w.0))
      (says numbered stood t s f c st (type_in t s f octet)
      (record { sub_is = eqb→eq (sub_of numbered) s q.0; form_is = d.0 ∙ fe; count_is = counted fe (d.0 ∙ fe) (d.1 ∙ se); stored_is = d.1 ∙ se }))
    where
      counted :
          form_of (shape_of numbered) ≡ f → form current numbered stood ≡ f → stored current numbered stood ≡ st
          → count current numbered stood ≡ c
      counted fe e k = go (eqb f 4) refl
        where
          go : (b : Bool) → eqb f 4 ≡ b → count current numbered stood ≡ c
          go true g = digits_count fe e (eqb-true f 4 g)
          go false g = other_count e k g

  pub shaped_stands : 2 ≤ f → stands_for t s f c st ≡ eqb (sub_of numbered) s && shaped (shape_of numbered) f c st
  unfolding stands_for
  shaped_stands high = rw (lt-leb f 1 (omega arith)) (same_test _ _ (there high) (back high))
