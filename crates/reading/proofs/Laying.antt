-- What the writers of an item and of a sheet's head lay over a buffer. Assumes nothing.
use mathlib.Core.Path.{◌≡◌, refl, sym, ap, subst, ◌∙◌}
use mathlib.Core.Bool.{cond}
use mathlib.Core.List.{List, [], ◌∷◌}
use Prim.Native.Nat.{ℕ, ◌+◌, ◌-◌, ◌*◌, ◌%◌, ◌≤◌, ◌<◌, min}
use native.Mathlib.Omega.{arith}
use lib.Dec.{eqb}
use lib.ListN.{length, take, drop, get_or, set, length-take, length-drop}
use lib.Seq.{take_all, length-take-le}
use borrow.Author.Tests.{eq-eqb, ne_eqb, lt-ltb, le-ltb}
use Rattle.meaning.specs.Versions.{current}
use Rattle.meaning.specs.Octets.{octets_of, pack, packed_length, digit_value}
use Rattle.meaning.specs.Sheet.{sheet_head}
use Rattle.octets.specs.Parts.{part_of, laid_at, Begun}
use Rattle.octets.specs.DigitStrings.{halves, eight_of, packed_of}
use Rattle.octets.specs.declared.Digits.{Digits}
use Rattle.octets.proofs.Overs.{each_laid, laid_as}
use Rattle.octets.proofs.Begun.{begun_laid, begun_as, begun_take, begun_short, begun_on, begun_before}
use Rattle.octets.proofs.Halves.{halves_packed}
use Rattle.octets.proofs.DigitStrings.{eight_length, packed_length_lem}
use Rattle.area.specs.declared.Part.{Part}
use Rattle.shape.specs.declared.Item.{Item}
use Rattle.shape.specs.declared.Value.TheVariants as is
use Rattle.shape.specs.Items.{stored_part, stored_value, stored_in}
use Rattle.reading.specs.Items.{names_of, item_in, Within, LaidCounted}

-- A writer of exactly the octets s, which have room there, has put them.
pub put_laid : (at n : ℕ) (s t d out : List ℕ) → t ≡ s → n ≡ length s → at + length t ≤ length d → out ≡ laid_at at s d
    → LaidCounted at t d n out
put_laid at n s t d out same size room e =
    record {
      says = size ∙ ap length (sym same);
      holds = begun_as at s t d out same (begun_laid at s d out (omega (arith, ap length same)) e);
    }

-- what was put, by another name
pub put_as : (at n : ℕ) (s t d out : List ℕ) → t ≡ s → LaidCounted at s d n out → LaidCounted at t d n out
put_as at n s t d out same w = subst (λ (r : List ℕ). LaidCounted at r d n out) (sym same) w

pub put_address : (n at : ℕ) (four d out : List ℕ) → four ≡ octets_of 4 n → at + 4 ≤ length d → out ≡ laid_at at four d
    → LaidCounted at (octets_of 4 n) d 4 out
unfolding octets_of
put_address n at four d out q room h = put_laid at 4 four _ d out (sym q) (sym (ap length q)) room h

-- ---- The forms of plain octets

pub part_5 : (f : ℕ) (v : List ℕ) → f ≡ 5 → stored_part f v ≡ pack (halves v)
unfolding stored_part
part_5 f v e = rw (eq-eqb f 5 e)

pub part_6 : (f : ℕ) (v : List ℕ) → (f ≡ 5 → ⊥) → f ≡ 6
    → stored_part f v ≡ ((digit_value (get_or v 0 0) * 10 + digit_value (get_or v 1 0)) % 256) ∷ pack (halves (drop 3 v))
unfolding stored_part
part_6 f v d e = rw (ne_eqb f 5 d, eq-eqb f 6 e)

pub part_plain : (f : ℕ) (v : List ℕ) → (f ≡ 5 → ⊥) → (f ≡ 6 → ⊥) → stored_part f v ≡ v
unfolding stored_part
part_plain f v d e = rw (ne_eqb f 5 d, ne_eqb f 6 e)

-- a QoS profile takes the release octet and half the digits
rest_long : (v : List ℕ) → length (pack (halves (drop 3 v))) ≡ packed_length (length v - 3)
rest_long v = halves_packed (drop 3 v) ∙ ap packed_length (length-drop 3 v)

pub qos_room : (f at room : ℕ) (v : List ℕ) → (f ≡ 5 → ⊥) → f ≡ 6 → at + length (stored_part f v) + 16 ≤ room
    → at + (1 + packed_length (length v - 3)) ≤ room
qos_room f at room v d e h = omega (arith, ap length (part_6 f v d e), rest_long v)

-- ---- What the writers lay

-- the release octet and then the packed digits
pub qos_put : (v digits : List ℕ) (release at size : ℕ) (buf first out : List ℕ)
    → release ≡ (digit_value (get_or v 0 0) * 10 + digit_value (get_or v 1 0)) % 256 → digits ≡ part_of v 3 (length v)
    → size ≡ packed_length (length v - 3) → at + (1 + packed_length (length v - 3)) ≤ length buf → first ≡ laid_at at (release ∷ []) buf
    → out ≡ laid_at (at + 1) (pack (halves digits)) first
    → LaidCounted at (((digit_value (get_or v 0 0) * 10 + digit_value (get_or v 1 0)) % 256) ∷ pack (halves (drop 3 v))) buf (1 + size) out
unfolding part_of
qos_put v digits release at size buf first out r q n room f h =
    let e : digits ≡ drop 3 v = q ∙ take_all (length v) (drop 3 v) (omega (arith, length-drop 3 v)) in
    let one : Begun at (release ∷ []) buf first = begun_laid at (release ∷ []) buf first (omega arith) f in
    let rest : Begun (at + 1) (pack (halves (drop 3 v))) first out =
    begun_laid (at + 1) (pack (halves (drop 3 v))) first out (omega (arith, rest_long v, one.kept)) (rw e at h) in
    record {
      says = omega (arith, rest_long v);
      holds = rw r at (begun_on at (at + 1) (release ∷ []) (pack (halves (drop 3 v))) buf first out refl one rest);
    }

-- the octets of a digit string, which eight octets start with
pub digits_put : (d : Digits) (at n size : ℕ) (eight buf out : List ℕ) → eight ≡ eight_of d → n ≡ min d.len 15 → size ≡ packed_length n
    → at + 8 ≤ length buf → out ≡ laid_at at eight buf → LaidCounted at (packed_of d) buf size out
unfolding packed_of
digits_put d at n size eight buf out e few long room h =
    record {
      says = long ∙ ap packed_length few ∙ sym (packed_length_lem d);
      holds = begun_take at (packed_length (min d.len 15)) (eight_of d) buf out (omega arith) (begun_laid at (eight_of d) buf out (omega (arith, eight_length d)) (rw e at h));
    }

-- a few octets, with what stands behind them
pub short_put : (at n : ℕ) (s t d out : List ℕ) → t ≡ take n s → n ≤ length s → n ≤ 16 → at + length t + 16 ≤ length d
    → out ≡ laid_at at (part_of s 0 16) d → LaidCounted at t d n out
short_put at n s t d out same within few room e =
    record {
      says = sym (ap length same ∙ length-take-le n s within);
      holds = begun_as at (take n s) t d out same (begun_short at n s d out few (omega arith) e);
    }

-- the octets from the start of a part to its end are those of the part
abbrev pub cut_of : List ℕ → Part → List ℕ
cut_of area p = take (p.start + p.len - p.start) (drop p.start area)

pub cut_part : (area : List ℕ) (p : Part) → cut_of area p ≡ part_of area p.start p.len
unfolding part_of
cut_part area p =
    let long : p.start + p.len - p.start ≡ p.len = omega arith in
    ap (λ (n : ℕ). take n (drop p.start area)) long

-- what stands in an area from the start of a part on begins with the part
abbrev pub rest_of : List ℕ → Part → List ℕ
rest_of area p = take (length area - p.start) (drop p.start area)

rest_part : (area : List ℕ) (p : Part) → take p.len (rest_of area p) ≡ part_of area p.start p.len
unfolding part_of
rest_part area p = ap (take p.len) (take_all (length area - p.start) (drop p.start area) (omega (arith, length-drop p.start area)))

module _ (area : List ℕ) (i : Item) where
  -- an item of each value
  pub number_stored : (n : ℕ) → i.value ≡ is.Number n → stored_in area i ≡ cond (eqb i.form 7) ((n % 256) ∷ []) (octets_of 4 n)
  unfolding stored_in stored_value
  number_stored n e = rw e

  pub address_stored : (n : ℕ) → i.value ≡ is.Address n → stored_in area i ≡ octets_of 4 n
  unfolding stored_in stored_value
  address_stored n e = rw e

  pub digits_stored : i.value ≡ is.Digits → stored_in area i ≡ packed_of i.digits
  unfolding stored_in stored_value
  digits_stored e = rw e

  part_stored : (p : Part) → i.value ≡ is.Plain p → stored_in area i ≡ stored_part i.form (part_of area p.start p.len)
  unfolding stored_in stored_value
  part_stored p e = rw e

  -- plain octets that lie in the area
  module _ (p : Part) (e : i.value ≡ is.Plain p) where
    pub rest_stored : stored_in area i ≡ stored_part i.form (take p.len (rest_of area p))
    rest_stored = part_stored p e ∙ ap (stored_part i.form) (sym (rest_part area p))

    pub rest_holds : Within area i → p.len ≤ length (rest_of area p)
    rest_holds w = omega (arith, w.inside p e, length-take (length area - p.start) (drop p.start area), length-drop p.start area)

    pub rest_room : (at room : ℕ) → at + length (stored_in area i) + 16 ≤ room
        → at + length (stored_part i.form (take p.len (rest_of area p))) + 16 ≤ room
    rest_room at room h = omega (arith, ap length rest_stored)

  item_length : length (item_in area i) ≡ 4 + length (stored_in area i)
  unfolding item_in names_of
  item_length = omega arith

  pub stored_room : (at room : ℕ) → at + length (item_in area i) + 16 ≤ room → at + 4 + length (stored_in area i) + 16 ≤ room
  stored_room at room h = omega (arith, item_length)

  -- an item is the names that stand there, form and count, and what it stores
  module _ (at size : ℕ) (held first : List ℕ) (room : at + length (item_in area i) + 16 ≤ length held)
      (w : LaidCounted (at + 4) (stored_in area i) held size first) where
    -- form and count have room
    pub form_room : at + 4 ≤ length first
    form_room = omega (arith, w.holds.kept)

    form_laid : set (set first (at + 2) i.form) (at + 3) i.count ≡ laid_at (at + 2) (i.form ∷ i.count ∷ []) first
    form_laid =
        let there : at + 3 ≡ at + 2 + 1 = omega arith in
        ap (λ (k : ℕ). set (set first (at + 2) i.form) k i.count) there
        ∙ each_laid (at + 2) (i.form ∷ i.count ∷ []) first (omega (arith, form_room)) 1 refl

    pub item_put : (d : List ℕ) → Begun at (names_of i.number) d held
        → LaidCounted at (item_in area i) d (4 + size) (set (set first (at + 2) i.form) (at + 3) i.count)
    unfolding item_in names_of
    item_put d names =
        let behind : at + 2 + 2 ≡ at + 4 = omega arith in
        record {
          says = omega (arith, w.says, item_length);
          holds = begun_on at (at + 2) (names_of i.number) (i.form ∷ i.count ∷ stored_in area i) d held _ refl names
              (begun_before (at + 2) (at + 4) (i.form ∷ i.count ∷ []) (stored_in area i) held first _ behind (omega arith) w.holds form_laid);
        }

-- the names of a plain number, and of one of 3GPP
pub plain_names : (n at : ℕ) (d : List ℕ) → n < 256 → at + 2 ≤ length d → set (set d at n) (at + 1) 0 ≡ laid_at at (names_of n) d
unfolding names_of
plain_names n at d h room = laid_as at (n ∷ 0 ∷ []) _ d _ (rw (lt-ltb n 256 h)) (each_laid at (n ∷ 0 ∷ []) d room 1 refl)

pub gpp_names : (n at : ℕ) (d : List ℕ) → 256 ≤ n → at + 2 ≤ length d → set (set d at 26) (at + 1) (n - 256) ≡ laid_at at (names_of n) d
unfolding names_of
gpp_names n at d h room = laid_as at (26 ∷ (n - 256) ∷ []) _ d _ (rw (le-ltb n 256 h)) (each_laid at (26 ∷ (n - 256) ∷ []) d room 1 refl)

-- the head of a sheet, with the number of items in two octets
pub head_laid : (kind flags count : ℕ) (many : List ℕ) → many ≡ octets_of 2 count
    → 71 ∷ 73 ∷ 82 ∷ 0 ∷ 1 ∷ kind ∷ flags ∷ get_or many 0 0 ∷ get_or many 1 0 ∷ [] ≡ sheet_head current kind flags count
unfolding sheet_head octets_of
head_laid kind flags count many e = rw e
