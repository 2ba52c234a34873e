-- What the octets at the place of an item say: its reading, or its session id. Assumes nothing.
use Rattle.std.proofs.Common.{◌≡◌, ℕ, zero, suc, ◌+◌, Bool, true, false, cond, eqb, List, [], ◌∷◌, ◌++◌, length, get_or, take, drop, sym, refl, ap, ◌∙◌, ⊎_elim, arith, eqb→eq, length-drop, take-append-drop, get_or-drop, drop-drop, take_at, lt-ltb, eqb-true}
use Rattle.std.specs.Prelude.{None, Some}
use Rattle.meaning.specs.Versions.{current}
use Rattle.meaning.specs.Octets.{Octets, number_of, pack, packed_length, values}
use Rattle.meaning.specs.Framing.{Walk, attributes}
use Rattle.meaning.specs.Shapes.{Shape, shape_of, plain_shape, meets}
use Rattle.meaning.specs.Sheet.{form_of, stored_of, form, stored, item, items_in, Entered, holds, refused, entered, on_item, items}
use Rattle.meaning.specs.Ledger.{missing, had, first_in, reading_in, session_in, Counter, octets_in, octets_out, packets_in, packets_out, counter_number}
use Rattle.meaning.proofs.Octets.{octets_drop}
use Rattle.meaning.proofs.Tests.{parts}
use Rattle.meaning.proofs.Packing.{pack_length, values_length}
use Rattle.meaning.proofs.Forms.{either_way}
use Rattle.meaning.proofs.Items.{AcceptedItem, entered_holds}
use Rattle.meaning.proofs.Usage.{counter_shape, four_octets}
use Rattle.octets.specs.Parts.{part_of}
use Rattle.ledger.specs.declared.Told.{Told}
use Rattle.ledger.specs.Firsts.{first_place, place_in, firsts_of, value_at, number_at, read_at}
use Rattle.ledger.specs.Answers.{number_by, told_of}

-- the items of a number, in a form, store so many octets, which are what is read of the value
pub record Stores (n f w : ℕ) (read : List ℕ → ℕ) : Type 0 where
  pub long : (v : List ℕ) → form current n v ≡ f → length (stored current n v) ≡ w
  pub is : (v : List ℕ) → form current n v ≡ f → number_of (stored current n v) ≡ read v

module _ (n f w : ℕ) (read : List ℕ → ℕ) (st : Stores n f w read) (l : List ℕ) where
  nothing_told : read_at f w l None ≡ None
  unfolding read_at value_at
  nothing_told = refl

  -- an item of the number stands at a place
  item_told : (p : ℕ) → (v rest : List ℕ) → drop p l ≡ item current n v ++ rest
      → read_at f w l (Some p) ≡ number_by (cond (eqb (form current n v) f) (had (read v)) missing)
  unfolding read_at value_at part_of item
  item_told p v rest e =
      let form_is : get_or l (p + 2) 0 ≡ form current n v = sym (get_or-drop p l 2 0) ∙ ap (λ (d : List ℕ). get_or d 2 0) e in
      let behind : drop (p + 4) l ≡ stored current n v ++ rest = sym (drop-drop 4 p l) ∙ ap (drop 4) e in
      rw (lt-ltb p (length l) (omega (arith, length-drop p l, ap length e)), form_is) (go (eqb (form current n v) f) refl behind)
    where
      go : (b : Bool) → eqb (form current n v) f ≡ b → drop (p + 4) l ≡ stored current n v ++ rest
          → number_at w l (cond b (Some (p + 4)) None) ≡ number_by (cond b (had (read v)) missing)
      go true q behind =
          let is = eqb-true (form current n v) f q in
          rw behind (ap (λ (d : List ℕ). Some (number_of d)) (take_at (stored current n v) rest w (st.long v is)) ∙ ap Some (st.is v is))
      go false q behind = refl

  -- so many items from a place on
  items_told : Octets l → (left p : ℕ)
      → read_at f w l (first_place n (attributes (items current left p (drop p l))))
      ≡ number_by (first_in current n f read (attributes (items current left p (drop p l))))
  unfolding items attributes first_place first_in
  items_told o zero p = go (drop p l)
    where
      go : (d : List ℕ) → read_at f w l (first_place n (attributes (items current 0 p d)))
          ≡ number_by (first_in current n f read (attributes (items current 0 p d)))
      go [] = nothing_told
      go (x ∷ d) = nothing_told
  items_told o (suc c) p = go (entered current (drop p l)) refl (λ size. items_told o c (p + size))
    where
      rest : ℕ → Walk
      rest size = items current c (p + size) (drop size (drop p l))

      Told : Walk → Type 0
      Told w' = read_at f w l (first_place n (attributes w')) ≡ number_by (first_in current n f read (attributes w'))

      go : (x : Entered) → entered current (drop p l) ≡ x → ((size : ℕ) → Told (items current c (p + size) (drop (p + size) l)))
          → Told (on_item p rest x)
      go (holds m v size) q ih = here (eqb m n) refl
        where
          octets : AcceptedItem current (drop p l) m v size
          octets = entered_holds current (drop p l) m v size (octets_drop p l o) q

          here : (b : Bool) → eqb m n ≡ b
              → read_at f w l (cond b (Some p) (first_place n (attributes (rest size))))
              ≡ number_by
              (cond b (cond (eqb (form current n v) f) (had (read v)) missing) (first_in current n f read (attributes (rest size))))
          here true e =
              let is : m ≡ n = eqb-true m n e in
              let it : item current n v ≡ take size (drop p l) = rw is at octets.same_octets in
              item_told p v (drop size (drop p l)) (sym (take-append-drop size (drop p l)) ∙ ap (λ (d : List ℕ). d ++ drop size (drop p l)) (sym it))
          here false e = rw (drop-drop size p l) (ih size)
      go (refused k) q ih = nothing_told

-- ---- The five

counter_stores : (c : Counter) → Stores (counter_number c) 2 4 number_of
unfolding stored_of
counter_stores c =
    record {
      long = λ v e. ap length (as_it_stands_lem v) ∙ four_octets current c v e;
      is = λ v e. ap number_of (as_it_stands_lem v);
    }
  where
    as_it_stands_lem : (v : List ℕ) → stored current (counter_number c) v ≡ v
    as_it_stands_lem v = ⊎_elim (λ d. d.stored_is ∙ ap (λ (s : Shape). stored_of current s v) (counter_shape c)) (λ q. q.stored_is) (either_way current (counter_number c) v)

-- the digits of a session id
record SixteenDigits (v : List ℕ) : Type 0 where
  long : length v ≡ 16
  packed : stored current 44 v ≡ pack (values v)

sixteen : (v : List ℕ) → form current 44 v ≡ 5 → SixteenDigits v
unfolding stored_of form_of meets shape_of plain_shape
sixteen v e = ⊎_elim (λ d. record { long = eqb→eq (length v) 16 (parts (eqb (length v) 16) _ d.met).0; packed = d.stored_is }) (λ q. absurd (omega (arith, q.form_is))) (either_way current 44 v)

session_stores : Stores 44 5 8 (λ v. number_of (pack (values v)))
session_stores =
    record {
      long = λ v e. let s = sixteen v e in ap length s.packed ∙ pack_length (values v) ∙ ap packed_length (values_length v ∙ s.long);
      is = λ v e. ap number_of (sixteen v e).packed;
    }

module _ (l : List ℕ) (o : Octets l) where
  -- What stands at the place of the first item of a counter's number is the sheet's reading,
  pub reading_told : (c : Counter) → read_at 2 4 l (place_in (counter_number c) l) ≡ number_by (reading_in (counter_number c) l)
  unfolding reading_in items_in
  reading_told c = items_told (counter_number c) 2 4 number_of (counter_stores c) l o _ 9

  -- and at that of the first 44 its session id.
  pub session_told : read_at 5 8 l (place_in 44 l) ≡ number_by (session_in l)
  unfolding session_in items_in
  session_told = items_told 44 5 8 _ session_stores l o _ 9

  -- all that is read at the first items is what the sheet tells
  pub all_told : ◌≡◌ {A = Told} (record {
    input_octets = read_at 2 4 l (firsts_of l).input_octets;
    output_octets = read_at 2 4 l (firsts_of l).output_octets;
    session = read_at 5 8 l (firsts_of l).session;
    input_packets = read_at 2 4 l (firsts_of l).input_packets;
    output_packets = read_at 2 4 l (firsts_of l).output_packets;
  }) (told_of l)
  unfolding told_of firsts_of
  all_told = rw (reading_told octets_in, reading_told octets_out, session_told, reading_told packets_in, reading_told packets_out)
