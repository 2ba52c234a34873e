-- Demand 2, of the meaning: a sheet made by reading is judged to be its area, kind and flags; a sheet that the judgement accepts is
-- the sheet of what it gives; so the accepted sheets are those of readable areas, and each has one area. Assumes nothing.
use mathlib.Core.Path.{◌≡◌, refl, sym, ap, ap₂, ◌∙◌}
use mathlib.Core.Logic.{◌↔◌}
use mathlib.Core.Bool.{Bool, true, false, not, ◌&&◌}
use mathlib.Core.List.{List, [], ◌∷◌, ◌++◌}
use Prim.Native.Nat.{ℕ, ◌+◌, ◌*◌, ◌-◌, ◌<◌, ◌≤◌}
use native.Mathlib.Omega.{arith}
use lib.Dec.{T, ltb, leb, leb→le}
use borrow.Author.Tests.{le-ltb, le-leb, ltb-true, ltb-false, not-false}
use lib.ListN.{length, take, drop, length-append, length-drop, take-append-drop}
use lib.Seq.{drop-cons, drop-drop, length-take-le}
use Rattle.meaning.specs.Octets.{Octets, same, number_of, octets_of}
use Rattle.meaning.specs.Jobs.{is_kind, are_flags}
use Rattle.meaning.specs.Versions.{Version, one, terms_of}
use Rattle.meaning.specs.Framing.{is_plain, Attribute, attribute_octets, area_of, Carried, All, Walk, walk_at, walk, attributes}
use Rattle.meaning.specs.Refusals.{Refusal, none, refusal, when, first, fault, too_long, kind_refusal, framing_refusal, area_refusal}
use Rattle.meaning.specs.Refusals.{sheet_refusal}
use Rattle.meaning.specs.Sheet.{mark, items_of, sheet_head, sheet_with, sheet_as, Readable, Writable, items, items_in, version_in, kind_in}
use Rattle.meaning.specs.Sheet.{flags_in, area_in, marked, judged}
use Rattle.meaning.proofs.Tests.{parts, is_true, passes, same_one}
use Rattle.meaning.proofs.Numbers.{number_back, octets_back}
use Rattle.meaning.proofs.Framing.{octets_by, head_two, attribute_long, plain_lines, gpp_lines}
use Rattle.meaning.proofs.Walked.{no_refusal, walked_area, area_back, no_fault}
use Rattle.meaning.proofs.RoundTrip.{reread, kept, judged_items}
use Rattle.meaning.proofs.Octets.{octets_take, octets_drop, octets_append}

-- ---- What it takes to be read

-- An area with kind and flags of which nothing of 1 to 8 applies.
pub record Clear (kind flags : ℕ) (area : List ℕ) : Type 0 where
  pub kind_ok : is_kind kind ≡ true
  pub flags_ok : are_flags flags ≡ true
  pub short : length area ≤ 4076
  pub sound : fault (walk area) ≡ none

-- no line of the book applies where the first of them does not
pub when_none : (b : Bool) (n s : ℕ) (r : Refusal) → first (when b n s) r ≡ none → (b ≡ false) × (r ≡ none)
when_none true n s r e = no_refusal n s e
when_none false n s r e = (refl, e)

pub first_none : (q r : Refusal) → first q r ≡ none → (q ≡ none) × (r ≡ none)
first_none none r e = (refl, e)
first_none (refusal n s) r e = no_refusal n s e

pub when_is_none : (b : Bool) (n s : ℕ) → when b n s ≡ none → b ≡ false
when_is_none true n s e = no_refusal n s e
when_is_none false n s e = refl

pub clear : (kind flags : ℕ) (area : List ℕ) → area_refusal kind flags area ≡ none → Clear kind flags area
unfolding area_refusal kind_refusal framing_refusal
clear kind flags area e =
    let r = first_none (kind_refusal kind flags) (framing_refusal area) e in
    let a = when_none (not (is_kind kind)) 1 0 (when (not (are_flags flags)) 2 0) r.0 in
    let c = when_none (ltb 4076 (length area)) 3 (length area) (fault (walk area)) r.1 in
    record {
      kind_ok = not-false (is_kind kind) a.0;
      flags_ok = not-false (are_flags flags) (when_is_none (not (are_flags flags)) 2 0 a.1);
      short = ltb-false 4076 (length area) c.0;
      sound = c.1;
    }

pub clear_read : (kind flags : ℕ) (area : List ℕ) → Clear kind flags area → area_refusal kind flags area ≡ none
unfolding area_refusal kind_refusal framing_refusal
clear_read kind flags area c = rw (c.kind_ok, c.flags_ok, le-ltb 4076 (length area) c.short) c.sound

-- ---- There

-- Attributes take two octets each, at least.
pub area_long : (l : List Attribute) → 2 * length l ≤ length (area_of l)
unfolding area_of
area_long [] = omega arith
area_long (a ∷ l) =
    let here = length-append (attribute_octets a.number a.value) (area_of l) in
    omega (arith, area_long l, attribute_long a.number a.value, head_two a.number, here)

-- What a sheet with these attributes says of itself.
pub record Says (ver : Version) (kind flags : ℕ) (l : List Attribute) (sheet : List ℕ) : Type 0 where
  pub version_is : version_in sheet ≡ ver
  pub marked_is : marked sheet ≡ true
  pub kind_is : kind_in sheet ≡ kind
  pub flags_is : flags_in sheet ≡ flags
  pub items_are : items_in sheet ≡ items ver (length l) 9 (items_of ver l)

pub sheet_says :
    (ver : Version) (kind flags : ℕ) (l : List Attribute) → length l < 65536
    → Says ver kind flags l (sheet_with ver kind flags l)
unfolding sheet_with sheet_head marked items_in octets_of
sheet_says one kind flags l h =
    record {
      version_is = refl;
      marked_is = rw (le-leb 9 (length (sheet_with one kind flags l)) (omega arith));
      kind_is = refl;
      flags_is = refl;
      items_are = ap (λ (n : ℕ). items one n 9 (items_of one l)) (number_back 2 (length l) h);
    }

-- What a judged sheet gives back.
pub record Returned (kind flags : ℕ) (area sheet : List ℕ) : Type 0 where
  pub accepted : judged sheet ≡ none
  pub kind_is : kind_in sheet ≡ kind
  pub flags_is : flags_in sheet ≡ flags
  pub area_is : area_in sheet ≡ area

-- Judging the sheet of a readable area gives that area, kind and flags, in every version.
pub sheet_goes_back :
    (ver : Version) (kind flags : ℕ) (area : List ℕ) → Readable kind flags area
    → Returned kind flags area (sheet_as ver kind flags area)
unfolding sheet_as judged sheet_refusal area_in
sheet_goes_back ver kind flags area r =
    let c = clear kind flags area r.accepted in
    let l : List Attribute = attributes (walk area) in
    let e : area_of l ≡ area = area_back area r.octets c.sound in
    let s = sheet_says ver kind flags l (omega (arith, area_long l, ap length e, c.short)) in
    let k = kept ver 9 l (walked_area area r.octets).carried in
    let a : area_in (sheet_with ver kind flags l) ≡ area = ap (λ (x : Walk). area_of (attributes x)) s.items_are ∙ k.same_area ∙ e in
    let fits = le-ltb 4076 (length area) c.short in
    record {
      accepted = rw (s.marked_is, s.items_are, s.kind_is, s.flags_is, k.sound, k.same_area, e, c.kind_ok, c.flags_ok, fits);
      kind_is = s.kind_is;
      flags_is = s.flags_is;
      area_is = a;
    }

-- ---- And back

attribute_octets_lem : (a : Attribute) → Carried a → Octets (attribute_octets a.number a.value)
unfolding attribute_octets octets_of
attribute_octets_lem a c = go (is_plain a.number) refl
  where
    v : List ℕ
    v = a.value

    n : ℕ
    n = a.number

    go : (b : Bool) → is_plain n ≡ b → Octets (octets_by b n v)
    go true p =
        let h : n < 256 = ltb-true n 256 p in
        let g : length v ≤ 253 = leb→le (length v) 253 (parts (leb (length v) 253) _ (plain_lines n v p c.carried)).0 in
        (h, (omega arith, c.octets))
    go false p =
        let g : length v ≤ 246 = gpp_lines n v p c.carried in
        let h : n < 512 = c.low in
        (omega arith, (omega arith, (omega arith, (omega arith, (omega arith, (omega arith, (omega arith, (omega arith, c.octets))))))))

pub area_octets_lem : (l : List Attribute) → All Carried l → Octets (area_of l)
unfolding area_of
area_octets_lem [] c = tt
area_octets_lem (a ∷ l) c = octets_append (attribute_octets a.number a.value) (area_of l) (attribute_octets_lem a c.0) (area_octets_lem l c.1)

-- a sheet of nine octets or more is its head and the rest
split :
    (sheet : List ℕ) → Octets sheet → marked sheet ≡ true
    → sheet ≡ sheet_head (version_in sheet) (kind_in sheet) (flags_in sheet) (number_of (take 2 (drop 7 sheet))) ++ drop 9 sheet
unfolding marked sheet_head octets_of
split sheet o m =
    let front : List ℕ = mark ++ octets_of 2 (terms_of (version_in sheet)).number in
    let many : List ℕ = take 2 (drop 7 sheet) in
    let t = parts (leb 9 (length sheet)) (same (take 5 sheet) front) (passes _ m) in
    let long : 9 ≤ length sheet = leb→le 9 (length sheet) t.0 in
    let five : 5 < length sheet = omega arith in
    let six : 6 < length sheet = omega arith in
    let two : length many ≡ 2 = length-take-le 2 (drop 7 sheet) (omega (arith, length-drop 7 sheet)) in
    let count : octets_of 2 (number_of many) ≡ many =
    ap (λ (w : ℕ). octets_of w (number_of many)) (sym two) ∙ octets_back many (octets_take 2 (drop 7 sheet) (octets_drop 7 sheet o)) in
    let rest : drop 7 sheet ≡ octets_of 2 (number_of many) ++ drop 9 sheet =
    sym (take-append-drop 2 (drop 7 sheet)) ∙ ap (λ (x : List ℕ). many ++ x) (drop-drop 2 7 sheet) ∙ ap (λ (x : List ℕ). x ++ drop 9 sheet) (sym count) in
    let behind : drop 5 sheet ≡ kind_in sheet ∷ flags_in sheet ∷ (octets_of 2 (number_of many) ++ drop 9 sheet) =
    drop-cons sheet 5 0 five ∙ ap (λ (x : List ℕ). kind_in sheet ∷ x) (drop-cons sheet 6 0 six ∙ ap (λ (x : List ℕ). flags_in sheet ∷ x) rest) in
    sym (take-append-drop 5 sheet) ∙ ap₂ ◌++◌ (same_one (take 5 sheet) front t.1) behind

-- A sheet of which nothing of 20 to 24 applies.
pub record Unrefused (sheet : List ℕ) : Type 0 where
  pub marked_is : marked sheet ≡ true
  pub kind_ok : is_kind (kind_in sheet) ≡ true
  pub flags_ok : are_flags (flags_in sheet) ≡ true
  pub sound : fault (items_in sheet) ≡ none
  pub short : length (area_in sheet) ≤ 4076

pub unrefused : (sheet : List ℕ) → judged sheet ≡ none → Unrefused sheet
unfolding judged sheet_refusal
unrefused sheet e =
    let kind : Bool = is_kind (kind_in sheet) in
    let flags : Bool = are_flags (flags_in sheet) in
    let len : ℕ = length (area_in sheet) in
    let a =
    when_none (not (marked sheet)) 20 0 (first (when (not (kind && flags)) 21 0) (first (fault (items_in sheet)) (too_long 24 len))) e in
    let b = when_none (not (kind && flags)) 21 0 (first (fault (items_in sheet)) (too_long 24 len)) a.1 in
    let c = first_none (fault (items_in sheet)) (too_long 24 len) b.1 in
    let t : T (is_kind (kind_in sheet) && are_flags (flags_in sheet)) =
    passes (is_kind (kind_in sheet) && are_flags (flags_in sheet)) (not-false (is_kind (kind_in sheet) && are_flags (flags_in sheet)) b.0) in
    record {
      marked_is = not-false (marked sheet) a.0;
      kind_ok = is_true _ (parts (is_kind (kind_in sheet)) (are_flags (flags_in sheet)) t).0;
      flags_ok = is_true _ (parts (is_kind (kind_in sheet)) (are_flags (flags_in sheet)) t).1;
      sound = c.0;
      short = ltb-false 4076 len (when_is_none (ltb 4076 len) 24 len c.1);
    }

-- A sheet that the judgement accepts is the sheet of the area it gives, in its version, and that area is readable.
pub record Accepted (sheet : List ℕ) : Type 0 where
  pub readable : Readable (kind_in sheet) (flags_in sheet) (area_in sheet)
  pub is : sheet ≡ sheet_as (version_in sheet) (kind_in sheet) (flags_in sheet) (area_in sheet)

pub accepted_sheet : (sheet : List ℕ) → Octets sheet → judged sheet ≡ none → Accepted sheet
unfolding sheet_as sheet_with area_in items_in walk walk_at
accepted_sheet sheet o e =
    let p = unrefused sheet e in
    let ver : Version = version_in sheet in
    let j = judged_items ver (number_of (take 2 (drop 7 sheet))) 9 (drop 9 sheet) (octets_drop 9 sheet o) p.sound in
    let l : List Attribute = attributes (items_in sheet) in
    let r = reread ver 0 l j.carried in
    let clear : Clear (kind_in sheet) (flags_in sheet) (area_in sheet) =
    record { kind_ok = p.kind_ok; flags_ok = p.flags_ok; short = p.short; sound = no_fault 0 l j.carried } in
    record {
      readable = record { octets = area_octets_lem l j.carried; accepted = clear_read (kind_in sheet) (flags_in sheet) (area_in sheet) clear };
      is = split sheet o p.marked_is ∙ rw (r.as_many, j.as_many, r.same_items, j.same_octets);
    }

-- "exactly when some readable area": a sheet is accepted, in its own version.
pub written_exactly : (sheet : List ℕ) → Octets sheet → judged sheet ≡ none ↔ Writable (version_in sheet) sheet
written_exactly sheet o = (there, back)
  where
    there : judged sheet ≡ none → Writable (version_in sheet) sheet
    there e =
        let a = accepted_sheet sheet o e in
        record { kind = kind_in sheet; flags = flags_in sheet; area = area_in sheet; readable = a.readable; has = a.is }

    back : Writable (version_in sheet) sheet → judged sheet ≡ none
    back w = ap judged w.has ∙ (sheet_goes_back (version_in sheet) w.kind w.flags w.area w.readable).accepted

-- Two readable areas with one sheet are the same, and so are their kinds and flags.
pub one_area :
    (ver : Version) (k f : ℕ) (a : List ℕ) (k' f' : ℕ) (a' : List ℕ) → Readable k f a → Readable k' f' a'
    → sheet_as ver k f a ≡ sheet_as ver k' f' a' → (k ≡ k') × (f ≡ f') × (a ≡ a')
one_area ver k f a k' f' a' r r' e =
    let s = sheet_goes_back ver k f a r in
    let s' = sheet_goes_back ver k' f' a' r' in
    (sym s.kind_is ∙ ap kind_in e ∙ s'.kind_is, sym s.flags_is ∙ ap flags_in e ∙ s'.flags_is, sym s.area_is ∙ ap area_in e ∙ s'.area_is)
