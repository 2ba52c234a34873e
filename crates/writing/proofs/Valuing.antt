-- What the writers of a value answer, by the item's form: where some readable attribute gives the item, and what stands in the buffer
-- then. Assumes nothing.
use mathlib.Core.Path.{◌≡◌, refl, sym, ap, subst, ◌∙◌}
use mathlib.Core.Bool.{Bool, true, false, cond, not, ◌&&◌, ◌||◌, and-false}
use mathlib.Core.List.{List, [], ◌∷◌}
use Prim.Native.Nat.{ℕ, ◌+◌, ◌*◌, ◌/◌, ◌%◌, ◌<◌, ◌≤◌}
use native.Mathlib.Omega.{arith}
use lib.Dec.{T, eqb, eqb→eq}
use borrow.Author.Tests.{eq-eqb, ne_eqb, not-true, not-false}
use lib.ListN.{length, take, get_or, set}
use lib.Seq.{length-take-le}
use Rattle.meaning.specs.Octets.{Octets, digit_text, text, unpack, packed_length}
use Rattle.meaning.specs.Shapes.{Shape, qos, shape_of, meets}
use Rattle.meaning.specs.Sheet.{form_of, value_of}
use Rattle.meaning.proofs.Tests.{parts, passes, not_both}
use Rattle.meaning.proofs.Packing.{unpack_length}
use Rattle.octets.specs.Parts.{part_of, laid_at, Begun}
use Rattle.octets.specs.DigitStrings.{packed_digits, decimals}
use Rattle.octets.proofs.Overs.{Pasted, pasted_more, pasted_all, each_laid}
use Rattle.octets.proofs.Begun.{begun_laid, begun_as, begun_short}
use Rattle.octets.proofs.Unpacking.{decimals_length, packed_decimals, high_at, low_at}
use Rattle.shape.specs.Codes.{code_of, shape_by}
use Rattle.shape.proofs.Codes.{Past, every_code}
use Rattle.item.specs.Stands.{stands_as, takes_digits, raw, held, shaped}
use Rattle.item.proofs.Texts.{text_length, whole_length}
use Rattle.item.proofs.Held.{number_held, address_held, hexadecimal_held}
use Rattle.item.proofs.Shaping.{only, forms, shaped_alone, digits_shaped, raw_by_code, shaped_by_code}
use Rattle.std.specs.Prelude.{Option, None, Some}
use Rattle.writing.specs.Attributes.{profile_text, value_as, Digited, Laying}
use Rattle.writing.proofs.Values.{raw_short, profile, profile_long, qos_counted}

-- ---- Any value

module _ (at : ℕ) (stands : Bool) (value d out : List ℕ) where
  -- it does not stand
  pub laying_none : stands ≡ false → Laying at stands value d None out
  laying_none e = record { says = rw e; is = λ q. not_both (sym (sym e ∙ q)) }

  module _ (e : stands ≡ true) (k : ℕ) (long : k ≡ length value) where
    -- it stands and is there
    pub laying_begun : Begun at value d out → Laying at stands value d (Some k) out
    laying_begun b = record { says = ap Some long ∙ rw e; is = λ q. b }

    -- it was laid there
    laying_laid : at + k ≤ length d → out ≡ laid_at at value d → Laying at stands value d (Some k) out
    laying_laid room h = laying_begun (begun_laid at value d out (omega arith) h)

-- by what is said
module _ (at : ℕ) (stands : Bool) (value d : List ℕ) (said : Option ℕ) (out : List ℕ) (v : Laying at stands value d said out) where
  pub laid_not : said ≡ None → stands ≡ false
  laid_not e = go stands refl
    where
      go : (b : Bool) → stands ≡ b → b ≡ false
      go false t = refl
      go true t = absurd (let k : said ≡ Some (length value) = v.says ∙ rw t in let z : ◌≡◌ {A = ℕ} 0 1 = cc in omega arith)

  module _ (k : ℕ) (e : said ≡ Some k) where
    pub laid_stands : stands ≡ true
    laid_stands = go stands refl
      where
        go : (b : Bool) → stands ≡ b → b ≡ true
        go true t = refl
        go false t = absurd (let n : said ≡ None = v.says ∙ rw t in let z : ◌≡◌ {A = ℕ} 0 1 = cc in omega arith)

    pub laid_long : k ≡ length value
    laid_long = let q : said ≡ Some (length value) = v.says ∙ rw laid_stands in cc

-- a test and a value, by other names
laying_as : (at : ℕ) (a b : Bool) (s t d : List ℕ) (k : Option ℕ) (out : List ℕ) → a ≡ b → s ≡ t → Laying at a s d k out → Laying at b t d k out
laying_as at a b s t d k out p q u = subst (λ (x : Bool). Laying at x t d k out) p (subst (λ (r : List ℕ). Laying at a r d k out) q u)

-- ---- Digits

-- a loop over the octets has laid the digits before i, and lays the next
module _ (at c : ℕ) (st d out : List ℕ) (i : ℕ) (w : Pasted at (decimals (unpack c st)) d out (2 * i)) (here : i < length st) where
  pub digit_high : 2 * i < c → Pasted at (decimals (unpack c st)) d (set out (at + 2 * i) (get_or st i 0 / 16 + 48)) (2 * i + 1)
  unfolding decimals
  digit_high h = rw (high_at (λ x. x + 48) c st i h here) at (pasted_more at (decimals (unpack c st)) d out (2 * i) w (omega (arith, decimals_length c st)))

  pub digits_two : 2 * i + 1 < c
      → Pasted at (decimals (unpack c st)) d (set (set out (at + 2 * i) (get_or st i 0 / 16 + 48)) (at + 2 * i + 1) (get_or st i 0 % 16 + 48))
      (2 * (i + 1))
  unfolding decimals
  digits_two h =
      let next : 2 * (i + 1) ≡ 2 * i + 1 + 1 = omega arith in
      let on : at + 2 * i + 1 ≡ at + (2 * i + 1) = omega arith in
      rw (next, on) (rw (low_at (λ x. x + 48) c st i h here) at (pasted_more at (decimals (unpack c st)) d _ (2 * i + 1) (digit_high (omega arith)) (omega (arith, decimals_length c st))))

module _ (at c : ℕ) (st d out : List ℕ) where
  pub digits_none : false ≡ packed_digits c st → Digited at c st d false out
  digits_none e = record { says = e; is = λ q. not_both (sym q) }

  pub digits_laid : (i : ℕ) → Pasted at (decimals (unpack c st)) d out i → c ≤ i → true ≡ packed_digits c st → Digited at c st d true out
  digits_laid i w h e = record { says = e; is = λ q. begun_laid at (decimals (unpack c st)) d out w.room (pasted_all at (decimals (unpack c st)) d out i w (omega (arith, decimals_length c st))) }

-- the digits of a shape
module _ (at : ℕ) (s : Shape) (c : ℕ) (st d : List ℕ) (long : length st ≡ packed_length c) (o : Octets st) where
  pub digits_not_taken : (b : Bool) → b ≡ takes_digits s c → b ≡ false → (out : List ℕ)
      → Laying at (shaped s 4 c st) (text (unpack c st)) d None out
  digits_not_taken b t e out = laying_none at (shaped s 4 c st) (text (unpack c st)) d out (digits_shaped s c st long o ∙ ap (λ (a : Bool). a && packed_digits c st) (sym t ∙ e))

  module _ (b : Bool) (t : b ≡ takes_digits s c) (taken : b ≡ true) (said : Bool) (out : List ℕ) (u : Digited at c st d said out) where
    stands_by : shaped s 4 c st ≡ said
    stands_by = digits_shaped s c st long o ∙ ap (λ (a : Bool). a && packed_digits c st) (sym t ∙ taken) ∙ sym u.says

    pub digits_not_packed : said ≡ false → Laying at (shaped s 4 c st) (text (unpack c st)) d None out
    digits_not_packed e = laying_none at (shaped s 4 c st) (text (unpack c st)) d out (stands_by ∙ e)

    pub digits_packed : said ≡ true → (k : ℕ) → k ≡ c → Laying at (shaped s 4 c st) (text (unpack c st)) d (Some k) out
    digits_packed e k p =
        laying_begun at (shaped s 4 c st) (text (unpack c st)) d out (stands_by ∙ e) k (p ∙ sym (text_length (unpack c st) ∙ unpack_length c st long))
        (begun_as at (decimals (unpack c st)) (text (unpack c st)) d out (sym (packed_decimals c st (sym u.says ∙ e))) (u.is e))

-- ---- Four octets

-- ---- A QoS profile

module _ (at code : ℕ) (st d : List ℕ) where
  profile_stands : eqb code 60 && held qos 0 st ≡ shaped (shape_by code) 6 (length st) st
  unfolding form_of code_of shape_by
  profile_stands = shaped_alone code 6 (length st) st 60 (held qos 0 st) refl tt (qos_counted (length st) st)

  pub profile_other : (code ≡ 60 → ⊥) → (out : List ℕ)
      → Laying at (shaped (shape_by code) 6 (length st) st) (profile_text st) d None out
  profile_other h out = laying_none at (shaped (shape_by code) 6 (length st) st) (profile_text st) d out (sym profile_stands ∙ rw (ne_eqb code 60 h))

  pub profile_none : held qos 0 st ≡ false → (out : List ℕ)
      → Laying at (shaped (shape_by code) 6 (length st) st) (profile_text st) d None out
  profile_none e out = laying_none at (shaped (shape_by code) 6 (length st) st) (profile_text st) d out (sym profile_stands ∙ rw e (and-false (eqb code 60)))

  pub profile_put : Octets st → code ≡ 60 → held qos 0 st ≡ true → (out : List ℕ) → at + 255 ≤ length d → out ≡ laid_at at (profile_text st) d
      → Laying at (shaped (shape_by code) 6 (length st) st) (profile_text st) d (Some (1 + 2 * length st)) out
  profile_put o p e out room h =
      let q = profile st o e in
      laying_laid at (shaped (shape_by code) 6 (length st) st) (profile_text st) d out (sym profile_stands ∙ rw (eq-eqb code 60 p, e)) (1 + 2 * length st) (sym (profile_long st q.some)) (omega (arith, q.few)) h

-- ---- A value as it stands

module _ (at n code f k : ℕ) (rest d out : List ℕ) (within : k ≤ length rest) (room : at + 255 ≤ length d)
    (stands : raw n code f (take k rest) ≡ true) where
  size : k ≡ length (take k rest)
  size = sym (length-take-le k rest within)

  -- with what stands behind it
  pub raw_sixteen : k ≤ 16 → out ≡ laid_at at (part_of rest 0 16) d
      → Laying at (raw n code f (take k rest)) (take k rest) d (Some k) out
  raw_sixteen few h = laying_begun at (raw n code f (take k rest)) (take k rest) d out stands k size (begun_short at k rest d out few (omega arith) h)

  -- alone
  pub raw_alone : out ≡ laid_at at (take k rest) d → Laying at (raw n code f (take k rest)) (take k rest) d (Some k) out
  raw_alone h = laying_laid at (raw n code f (take k rest)) (take k rest) d out stands k size (omega (arith, raw_short n code f (take k rest) stands, size)) h

-- ---- By the form

-- an octet is stored in form 7
pub octet_some : (code c : ℕ) (st : List ℕ) → shaped (shape_by code) 7 c st ≡ true → 1 ≤ length st
unfolding shaped held form_of meets value_of text
octet_some code c [] e = absurd (rw e at (every_code (λ k s. not (shaped s 7 c [])) code tt tt))
octet_some code c (x ∷ st) e = omega arith

or_not : (a b : Bool) → not a || not b ≡ not (a && b)
or_not true b = refl
or_not false b = refl

-- the code is that of the shape of the item's number
module _ (at n code : ℕ) (is : code ≡ code_of (shape_of n)) (c : ℕ) (st d : List ℕ) where
  -- digits
  pub digits_valued : (said : Option ℕ) (out : List ℕ) → Laying at (shaped (shape_by code) 4 c st) (text (unpack c st)) d said out
      → Laying at (stands_as n 4 c st) (value_as n 4 c st) d said out
  unfolding value_as
  digits_valued said out u = laying_as at _ _ _ _ d said out (shaped_by_code n code is 4 c st (omega arith)) refl u

  -- a value as it stands, and an unknown form
  pub raw_valued : (f : ℕ) → Past (Unit {0}) f forms → (said : Option ℕ) (out : List ℕ) → Laying at (raw n code f st) st d said out
      → Laying at (stands_as n f c st) (value_as n f c st) d said out
  unfolding value_as
  raw_valued f other said out u =
      let value_is : st ≡ value_as n f c st =
      rw (ne_eqb f 4 other.0.0.0.1, ne_eqb f 5 other.0.0.1, ne_eqb f 6 other.0.1, ne_eqb f 7 other.1) in
      laying_as at (raw n code f st) (stands_as n f c st) st (value_as n f c st) d said out (raw_by_code n code is f c st other) value_is u

  -- a form that one code has
  alone_stands : (f own : ℕ) (t : Bool) → 2 ≤ f → form_of (shape_by own) ≡ f → T (only f (own ∷ [])) → t ≡ held (shape_by own) c st
      → eqb code own && t ≡ stands_as n f c st
  alone_stands f own t h e a p = shaped_alone code f c st own t e a p ∙ shaped_by_code n code is f c st h

  -- the other forms, whose stored octets are counted
  module _ (long : length st ≡ c) where
    pub number_valued : (said : Option ℕ) (out : List ℕ) → Laying at (eqb code 20 && eqb (length st) 4) st d said out
        → Laying at (stands_as n 2 c st) (value_as n 2 c st) d said out
    unfolding value_as form_of code_of shape_by
    number_valued said out u = laying_as at _ _ _ _ d said out (rw long (alone_stands 2 20 (eqb c 4) (omega arith) refl tt (sym (number_held c st long)))) refl u

    pub address_valued : (said : Option ℕ) (out : List ℕ) → Laying at (eqb code 30 && eqb (length st) 4) st d said out
        → Laying at (stands_as n 3 c st) (value_as n 3 c st) d said out
    unfolding value_as form_of code_of shape_by
    address_valued said out u = laying_as at _ _ _ _ d said out (rw long (alone_stands 3 30 (eqb c 4) (omega arith) refl tt (sym (address_held c st long)))) refl u

    module _ (o : Octets st) where
      text_stands : eqb code 50 && eqb c 8 ≡ stands_as n 5 c st
      unfolding form_of code_of shape_by
      text_stands = alone_stands 5 50 (eqb c 8) (omega arith) refl tt (sym (hexadecimal_held c st long o))

      pub text_none : not (eqb code 50) || not (eqb c 8) ≡ true → (out : List ℕ)
          → Laying at (stands_as n 5 c st) (value_as n 5 c st) d None out
      text_none e out = laying_none at (stands_as n 5 c st) (value_as n 5 c st) d out (sym text_stands ∙ not-true _ (sym (or_not (eqb code 50) (eqb c 8)) ∙ e))

      pub text_valued : not (eqb code 50) || not (eqb c 8) ≡ false → (out : List ℕ) → at + 16 ≤ length d
          → out ≡ laid_at at (text (unpack 16 st)) d → Laying at (stands_as n 5 c st) (value_as n 5 c st) d (Some 16) out
      unfolding value_as
      text_valued e out room h =
          let b : eqb code 50 && eqb c 8 ≡ true = not-false _ (sym (or_not (eqb code 50) (eqb c 8)) ∙ e) in
          let eight : length st ≡ 8 = long ∙ eqb→eq c 8 (parts (eqb code 50) (eqb c 8) (passes _ b)).1 in
          laying_laid at (stands_as n 5 c st) (value_as n 5 c st) d out (sym text_stands ∙ b) 16 (omega (arith, whole_length st)) room (h ∙ rw eight)

    -- a form that the shape tells
    counted_stands : (f : ℕ) → 2 ≤ f → shaped (shape_by code) f (length st) st ≡ stands_as n f c st
    counted_stands f h = rw long (shaped_by_code n code is f c st h)

    pub profile_valued : (said : Option ℕ) (out : List ℕ) → Laying at (shaped (shape_by code) 6 (length st) st) (profile_text st) d said out
        → Laying at (stands_as n 6 c st) (value_as n 6 c st) d said out
    unfolding value_as
    profile_valued said out u = laying_as at _ _ _ _ d said out (counted_stands 6 (omega arith)) refl u

    pub octet_none : shaped (shape_by code) 7 (length st) st ≡ false → (out : List ℕ)
        → Laying at (stands_as n 7 c st) (value_as n 7 c st) d None out
    octet_none e out = laying_none at (stands_as n 7 c st) (value_as n 7 c st) d out (sym (counted_stands 7 (omega arith)) ∙ e)

    pub octet_valued : shaped (shape_by code) 7 (length st) st ≡ true → (x : ℕ)
        → x ≡ cond (eqb code 71) (get_or st 0 0) (digit_text (get_or st 0 0 % 16)) → at + 1 ≤ length d
        → Laying at (stands_as n 7 c st) (value_as n 7 c st) d (Some 1) (set d at x)
    unfolding value_as
    octet_valued e x v room =
        laying_laid at (stands_as n 7 c st) (value_as n 7 c st) d (set d at x) (sym (counted_stands 7 (omega arith)) ∙ e) 1 refl room
        (rw (sym is, sym v) (each_laid at (x ∷ []) d room 0 refl))
