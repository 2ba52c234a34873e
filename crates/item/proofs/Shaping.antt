-- Which codes have a form, and what octets are in it: a law for each answer of the tests by the code, and how these tests judge an item
-- of the number whose shape has the code. Assumes nothing.
use mathlib.Core.Path.{◌≡◌, refl, sym, ap, subst, ◌∙◌}
use mathlib.Core.Bool.{Bool, true, false, cond, not, ◌&&◌, ◌||◌}
use mathlib.Core.List.{List, [], ◌∷◌}
use Prim.Native.Nat.{ℕ, ◌≤◌}
use native.Mathlib.Omega.{arith}
use lib.Dec.{T, eqb, leb, ltb}
use lib.ListN.{length}
use borrow.Author.Tests.{le-ltb, eq-eqb, ne_eqb, eqb-true, ltb-false}
use Rattle.meaning.specs.Octets.{Octets, is_in, between, packed_length}
use Rattle.meaning.specs.Framing.{is_plain}
use Rattle.meaning.specs.Shapes.{Shape, number, address, digits, hexadecimal, qos, hex_digit, any_octet, decimal_digit, at_least, exactly}
use Rattle.meaning.specs.Shapes.{blocks, free, shape_of}
use Rattle.meaning.specs.Sheet.{form_of}
use Rattle.meaning.proofs.Tests.{parts, right_or, not_both}
use Rattle.meaning.proofs.Forms.{raw_low}
use Rattle.octets.specs.DigitStrings.{packed_digits}
use Rattle.shape.specs.Codes.{code_of, shapes, shape_by}
use Rattle.shape.proofs.Codes.{each, every_code, every_shape, Past, alone}
use Rattle.shape.proofs.Coded.{past_not_in}
use Rattle.shape.proofs.Formed.{code_shape}
use Rattle.item.specs.Stands.{raw, held, shaped, takes_digits, stands_as}
use Rattle.item.proofs.Held.{digits_held}
use Rattle.item.proofs.Judging.{raw_other}

-- ---- The codes of a form

-- a shape has the form
abbrev pub has : (form : ℕ) → Shape → Bool
has f s = eqb (form_of s) f

-- the shapes that have the form are those of some codes
abbrev pub only : (form : ℕ) (codes : List ℕ) → Bool
only f codes = not (has f free) && each (λ s. is_in (code_of s) codes || not (has f s)) shapes

is_false : (b : Bool) → T (not b) → b ≡ false
is_false true t = absurd t
is_false false t = refl

-- the shape of any other code has another form
has_not : (f : ℕ) (codes : List ℕ) → T (only f codes) → (code : ℕ) → is_in code codes ≡ false → has f (shape_by code) ≡ false
has_not f codes t code out =
    let h = parts (not (has f free)) (each (λ (s : Shape). is_in (code_of s) codes || not (has f s)) shapes) t in
    is_false (has f (shape_by code))
    (subst (λ (b : Bool). T (b || not (has f (shape_by code)))) out
    (every_code (λ k s. is_in k codes || not (has f s)) code (right_or (is_in code codes) (not (has f free)) h.0) h.1))

-- ---- Octets in a form

module _ (code f c : ℕ) (st : List ℕ) where
  -- a code of this form
  pub shaped_as : (own : ℕ) → code ≡ own → form_of (shape_by own) ≡ f → held (shape_by own) c st ≡ shaped (shape_by code) f c st
  unfolding shaped
  shaped_as own is e = rw (is, eq-eqb (form_of (shape_by own)) f e)

  -- a code of another form
  pub shaped_not : (codes : List ℕ) → T (only f codes) → is_in code codes ≡ false → false ≡ shaped (shape_by code) f c st
  unfolding shaped
  shaped_not codes t out = rw (has_not f codes t code out)

  -- a form that one code has: a test of the code, and a test of the octets
  pub shaped_alone : (own : ℕ) (t : Bool) → form_of (shape_by own) ≡ f → T (only f (own ∷ [])) → t ≡ held (shape_by own) c st
      → eqb code own && t ≡ shaped (shape_by code) f c st
  shaped_alone own t e a h = go (eqb code own) refl
    where
      go : (b : Bool) → eqb code own ≡ b → b && t ≡ shaped (shape_by code) f c st
      go true q = h ∙ shaped_as own (eqb-true code own q) e
      go false q = shaped_not (own ∷ []) a (rw q)

-- ---- Digits

-- a shape that is not of digits takes none
takes_none : (s : Shape) (c : ℕ) → has 4 s ≡ false → false ≡ takes_digits s c
unfolding form_of takes_digits
takes_none number c e = refl
takes_none address c e = refl
takes_none (digits a b) c e = absurd (let z : true ≡ false = e in not_both z)
takes_none hexadecimal c e = refl
takes_none qos c e = refl
takes_none hex_digit c e = refl
takes_none any_octet c e = refl
takes_none decimal_digit c e = refl
takes_none (at_least n) c e = refl
takes_none (exactly n) c e = refl
takes_none blocks c e = refl
takes_none free c e = refl

-- the codes that take 5 or 6 digits, and 1 to 15
pub takes_few : (code c : ℕ) → code ≡ 41 → between 5 6 c ≡ takes_digits (shape_by code) c
unfolding takes_digits shape_by code_of
takes_few code c e = rw e

pub takes_many : (code c : ℕ) → (code ≡ 41 → ⊥) → eqb code 40 && between 1 15 c ≡ takes_digits (shape_by code) c
unfolding takes_digits shape_by code_of form_of
takes_many code c h = go (eqb code 40) refl
  where
    go : (b : Bool) → eqb code 40 ≡ b → b && between 1 15 c ≡ takes_digits (shape_by code) c
    go true e = rw (eqb-true code 40 e)
    go false e = takes_none (shape_by code) c (has_not 4 (40 ∷ 41 ∷ []) tt code (rw (e, ne_eqb code 41 h)))

-- octets are so many digits of a shape
pub digits_shaped : (s : Shape) (c : ℕ) (st : List ℕ) → length st ≡ packed_length c → Octets st
    → shaped s 4 c st ≡ takes_digits s c && packed_digits c st
unfolding shaped form_of takes_digits
digits_shaped (digits a b) c st l o = digits_held a b c st l o
digits_shaped number c st l o = refl
digits_shaped address c st l o = refl
digits_shaped hexadecimal c st l o = refl
digits_shaped qos c st l o = refl
digits_shaped hex_digit c st l o = refl
digits_shaped any_octet c st l o = refl
digits_shaped decimal_digit c st l o = refl
digits_shaped (at_least k) c st l o = refl
digits_shaped (exactly k) c st l o = refl
digits_shaped blocks c st l o = refl
digits_shaped free c st l o = refl

-- ---- The item, by the code of its number's shape

-- the forms that shapes have of their own
abbrev pub forms : List ℕ
forms = 2 ∷ 3 ∷ 4 ∷ 5 ∷ 6 ∷ 7 ∷ []

-- a form that no shape has of its own
shaped_never : (n f c : ℕ) (st : List ℕ) → Past (Unit {0}) f forms → false ≡ shaped (shape_of n) f c st
unfolding shaped form_of held
shaped_never n f c st p = go (has f (shape_of n)) refl
  where
    go : (b : Bool) → has f (shape_of n) ≡ b → false ≡ b && held (shape_of n) c st
    go false e = refl
    go true e =
        let own : form_of (shape_of n) ≡ f = eqb-true (form_of (shape_of n)) f e in
        let out : is_in (form_of (shape_of n)) forms ≡ false = ap (λ (k : ℕ). is_in k forms) own ∙ past_not_in (Unit {0}) f (alone forms) p in
        let low : T (not (leb 2 (form_of (shape_of n)))) = subst (λ (b : Bool). T (b || not (leb 2 (form_of (shape_of n))))) out (every_shape (λ (s : Shape). is_in (form_of s) forms || not (leb 2 (form_of s))) tt tt n) in
        rw (is_false (leb 2 (form_of (shape_of n))) low)

module _ (n code : ℕ) (is : code ≡ code_of (shape_of n)) (f c : ℕ) (st : List ℕ) where
  -- a value as it stands, and an unknown form
  pub raw_by_code : Past (Unit {0}) f forms → raw n code f st ≡ stands_as n f c st
  unfolding stands_as
  raw_by_code p = go (ltb f 2) refl
    where
      go : (b : Bool) → ltb f 2 ≡ b → raw n code f st ≡ cond b (raw n (code_of (shape_of n)) f st) (shaped (shape_of n) f c st)
      go true e = ap (λ (k : ℕ). raw n k f st) is
      go false e = sym (raw_other n code f st (λ g. omega (arith, g, raw_low (is_plain n), ltb-false f 2 e))) ∙ shaped_never n f c st p

  -- a value in its shape
  pub shaped_by_code : 2 ≤ f → shaped (shape_by code) f c st ≡ stands_as n f c st
  unfolding stands_as
  shaped_by_code h = rw (le-ltb f 2 h) (ap (λ (s : Shape). shaped s f c st) (code_shape n code is))
