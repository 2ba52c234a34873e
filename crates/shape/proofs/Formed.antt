-- What the form of a value says of the value and of what is stored of it. Assumes nothing.
use mathlib.Core.Path.{◌≡◌, refl, sym, ap, ◌∙◌}
use mathlib.Core.Logic.{⊎_elim}
use mathlib.Core.Bool.{Bool, true, false, cond, and-false}
use mathlib.Core.List.{List, [], ◌∷◌}
use Prim.Native.Nat.{ℕ, ◌+◌, ◌-◌, ◌*◌, ◌/◌, ◌%◌, ◌<◌, ◌≤◌}
use native.Mathlib.Nat.{mod-eq_of_lt}
use native.Mathlib.Omega.{arith}
use lib.Dec.{T, eqb, leb, eqb→eq, leb→le}
use borrow.Author.Tests.{lt-leb, le-leb}
use lib.ListN.{length, drop, get_or, length-drop}
use Rattle.meaning.specs.Versions.{current}
use Rattle.meaning.specs.Octets.{between, all, is_digit, is_hex, digit_value, values, pack, packed_length}
use Rattle.meaning.specs.Framing.{is_plain}
use Rattle.meaning.specs.Shapes.{Shape, number, address, digits, hexadecimal, qos, hex_digit, any_octet, decimal_digit, at_least, exactly}
use Rattle.meaning.specs.Shapes.{blocks, free, shape_of, release, meets}
use Rattle.meaning.specs.Sheet.{form_of, stored_of, decodes, form, stored}
use Rattle.meaning.proofs.Tests.{parts, either}
use Rattle.meaning.proofs.Packing.{Hexes, digits_hexes, values_halves, packed_values}
use Rattle.meaning.proofs.Forms.{released, either_way}
use Rattle.shape.specs.Codes.{code_of, shape_by}
use Rattle.shape.proofs.Codes.{shape_back, form_in_code, fifteen, at_most_fifteen}

-- ---- The form, by the shape

module _ (n : ℕ) (v : List ℕ) (s : Shape) (is : shape_of n ≡ s) where
  pub form_own : 2 ≤ form_of s → meets current s v ≡ true → form current n v ≡ form_of s
  unfolding form decodes
  form_own h m = rw (is, le-leb 2 (form_of s) h, m)

  pub form_raw : meets current s v ≡ false → form current n v ≡ cond (is_plain n) 0 1
  unfolding form decodes
  form_raw m = rw (is, m, and-false (leb 2 (form_of s)))

-- ---- The form, by the code

module _ (n code : ℕ) (is : code ≡ code_of (shape_of n)) where
  -- the tens of a number's code are its form
  pub own_form : code / 10 ≡ form_of (shape_of n)
  own_form = ap (λ (c : ℕ). c / 10) is ∙ form_in_code (shape_of n)

  -- the shape of a number's code is the number's
  pub code_shape : shape_by code ≡ shape_of n
  code_shape = ap shape_by is ∙ shape_back n

module _ (n : ℕ) (v : List ℕ) (code : ℕ) (is : code ≡ code_of (shape_of n)) where
  pub form_without : code / 10 < 2 → form current n v ≡ cond (is_plain n) 0 1
  unfolding form decodes
  form_without h = rw (lt-leb 2 (form_of (shape_of n)) (omega (arith, own_form n code is)))

  pub form_missed : meets current (shape_by code) v ≡ false → form current n v ≡ cond (is_plain n) 0 1
  form_missed = form_raw n v (shape_by code) (sym (code_shape n code is))

  pub form_met : 2 ≤ code / 10 → meets current (shape_by code) v ≡ true → form current n v ≡ code / 10
  form_met h m =
      rw (own_form n code is)
      (form_own n v (shape_of n) refl (omega (arith, own_form n code is)) (rw (code_shape n code is) at m))

-- ---- What a form says

-- of the value v in forms 2 and 3, stored as s
pub record Four (v s : List ℕ) : Type 0 where
  pub long : length v ≡ 4
  pub kept : s ≡ v

-- in form 4
pub record Digital (v s : List ℕ) : Type 0 where
  pub some : 1 ≤ length v
  pub few : length v ≤ 15
  pub decimal : T (all is_digit v)
  pub packed : s ≡ pack (values v)

-- in form 5
pub record Hexed (v s : List ℕ) : Type 0 where
  pub hexes : Hexes v
  pub packed : s ≡ pack (values v)

-- in form 6
pub record Profile (v s : List ℕ) : Type 0 where
  pub long : 3 ≤ length v
  pub hexes : Hexes (drop 3 v)
  pub packed : s ≡ (digit_value (get_or v 0 0) * 10 + digit_value (get_or v 1 0)) ∷ pack (values (drop 3 v))

-- in form 7, by the code of the shape
pub record One (code : ℕ) (v s : List ℕ) : Type 0 where
  pub long : length v ≡ 1
  pub octet : s ≡ cond (eqb code 71) (get_or v 0 0) (digit_value (get_or v 0 0) % 16) ∷ []

-- one fact or another, by a test
abbrev pub choose : Bool → Type 0 → Type 0 → Type 0
choose true A B = A
choose false A B = B

-- in each form
abbrev pub Formed : (code form : ℕ) (v s : List ℕ) → Type 0
Formed c f v s =
    choose (eqb f 2) (Four v s)
    (choose (eqb f 3) (Four v s)
    (choose (eqb f 4) (Digital v s)
    (choose (eqb f 5) (Hexed v s)
    (choose (eqb f 6) (Profile v s)
    (choose (eqb f 7) (One c v s) (s ≡ v))))))

profile : (a b n : ℕ) (v : List ℕ) → T (release current a b n v) → Profile v (stored_of current qos v)
unfolding stored_of
profile a b n v t = let r = released current a b n v t in record { long = omega (arith, r.long); hexes = r.hexes; packed = refl }

low_digit : (v : List ℕ) → length v ≡ 1 → Hexes v → values v ≡ (digit_value (get_or v 0 0) % 16) ∷ []
unfolding values
low_digit [] l t = absurd (omega arith)
low_digit (x ∷ []) l t = rw (mod-eq_of_lt (values_halves (x ∷ []) t).0)
low_digit (x ∷ y ∷ v) l t = absurd (omega arith)

-- one octet is the list of it
pub one_octet : (v : List ℕ) → length v ≡ 1 → v ≡ get_or v 0 0 ∷ []
one_octet [] l = absurd (omega arith)
one_octet (x ∷ []) l = refl
one_octet (x ∷ y ∷ v) l = absurd (omega arith)

met_formed :
    (s : Shape) (v : List ℕ) → T (leb 2 (form_of s)) → T (meets current s v) → T (fifteen s)
    → Formed (code_of s) (form_of s) v (stored_of current s v)
unfolding form_of meets stored_of code_of
met_formed number v f t d = record { long = eqb→eq (length v) 4 t; kept = refl }
met_formed address v f t d = record { long = eqb→eq (length v) 4 t; kept = refl }
met_formed (digits a b) v f t d =
    let u = parts (between a b (length v)) (all is_digit v) t in
    let l = parts (leb a (length v)) (leb (length v) b) u.0 in
    let h = parts (leb 1 a) (leb b 15) d in
    record {
      some = omega (arith, leb→le a (length v) l.0, leb→le 1 a h.0);
      few = omega (arith, leb→le (length v) b l.1, leb→le b 15 h.1);
      decimal = u.1;
      packed = refl;
    }
met_formed hexadecimal v f t d = record { hexes = (parts (eqb (length v) 16) (all is_hex v) t).1; packed = refl }
met_formed qos v f t d = ⊎_elim (profile 57 56 6 v) (profile 57 57 22 v) (either (release current 57 56 6 v) (release current 57 57 22 v) t)
met_formed hex_digit v f t d =
    let u = parts (eqb (length v) 1) (all is_hex v) t in
    let l = eqb→eq (length v) 1 u.0 in
    record { long = l; octet = low_digit v l u.1 }
met_formed any_octet v f t d = let l = eqb→eq (length v) 1 t in record { long = l; octet = one_octet v l }
met_formed decimal_digit v f t d =
    let u = parts (eqb (length v) 1) (all is_digit v) t in
    let l = eqb→eq (length v) 1 u.0 in
    record { long = l; octet = low_digit v l (digits_hexes v u.1) }
met_formed (at_least n) v f t d = absurd f
met_formed (exactly n) v f t d = absurd f
met_formed blocks v f t d = absurd f
met_formed free v f t d = absurd f

plainly_formed : (b : Bool) (c : ℕ) (v s : List ℕ) → s ≡ v → Formed c (cond b 0 1) v s
plainly_formed true c v s e = e
plainly_formed false c v s e = e

-- The form of a value says what the value and its stored octets are.
pub formed : (n : ℕ) (v : List ℕ) → Formed (code_of (shape_of n)) (form current n v) v (stored current n v)
formed n v =
    ⊎_elim (λ d. rw (d.form_is, d.stored_is) (met_formed (shape_of n) v d.own d.met (at_most_fifteen n)))
    (λ p. rw p.form_is (plainly_formed (is_plain n) (code_of (shape_of n)) v (stored current n v) p.stored_is)) (either_way current n v)

pub formed_as : (n : ℕ) (v : List ℕ) (f : ℕ) → form current n v ≡ f → Formed (code_of (shape_of n)) f v (stored current n v)
formed_as n v f e = rw e at (formed n v)

-- ---- How many octets are stored

module _ (n : ℕ) (v : List ℕ) where
  -- of hexadecimal text
  pub text_size : form current n v ≡ 5 → length (stored current n v) ≡ packed_length (length v)
  text_size e = ap length (formed_as n v 5 e).packed ∙ packed_values v

  -- of a QoS profile
  pub profile_size : form current n v ≡ 6 → length (stored current n v) ≡ 1 + packed_length (length v - 3)
  profile_size e = omega (arith, ap length (formed_as n v 6 e).packed, packed_values (drop 3 v), length-drop 3 v)
