-- The whole sheet: its head and its items one behind the other, and what reading answers. Assumes nothing.
use mathlib.Core.Path.{◌≡◌, refl, sym, ap, subst, ◌∙◌}
use mathlib.Core.List.{List, ◌++◌}
use Prim.Native.Nat.{ℕ, ◌+◌, ◌*◌, ◌≤◌, ◌<◌}
use native.Mathlib.Omega.{arith}
use lib.ListN.{length, take, length-append}
use Rattle.meaning.specs.Versions.{current}
use Rattle.meaning.specs.Octets.{Octets, octets_of}
use Rattle.meaning.specs.Framing.{walk, attributes}
use Rattle.meaning.specs.Refusals.{none, fault, area_refusal, area_order}
use Rattle.meaning.specs.Sheet.{sheet_head, sheet_with, sheet_as, sheet_of}
use Rattle.meaning.specs.Answers.{Answer, refused, over, after, read_answer, Promise}
use Rattle.meaning.proofs.Sheets.{clear}
use Rattle.meaning.proofs.Bounds.{items_fit, kind_octet, flags_octet}
use Rattle.octets.specs.Parts.{laid_at}
use Rattle.octets.specs.Handing.{handing, Handed}
use Rattle.octets.proofs.Overs.{laid_first, laid_behind}
use Rattle.octets.proofs.Handing.{handed_not, handed_over}
use Rattle.area.specs.declared.Refusal.{Refusal}
use Rattle.std.specs.Prelude.{Result, Ok, Err}
use Rattle.area.specs.Answers.{in_book, arrival_of}
use Rattle.area.proofs.Arriving.{fit_arrived}
use Rattle.reading.specs.declared.Tally.{Tally}
use Rattle.reading.specs.Items.{longest_items, area_items, ItemsLaid, PassSays}
use Rattle.reading.specs.Answers.{Reading, reading_of, Read}

-- a sheet is its head and its items
sheet_parts : (kind flags count : ℕ) (area : List ℕ) → count ≡ length (attributes (walk area))
    → sheet_of kind flags area ≡ sheet_head current kind flags count ++ area_items area
unfolding sheet_as sheet_with sheet_head area_items octets_of
sheet_parts kind flags count area e = rw e

head_long : (kind flags count : ℕ) → length (sheet_head current kind flags count) ≡ 9
unfolding sheet_head octets_of
head_long kind flags count = refl

-- The first that applies is a refusal, which leaves the buffer as it was.
pub refused_read : (kind flags : ℕ) (area : List ℕ) (x : Refusal) (d : List ℕ) → area_refusal kind flags area ≡ in_book x
    → Read kind flags area d (Err x) d
unfolding read_answer area_order after
refused_read kind flags area x d e = record { says = rw e; holds = rw e }

-- ---- Handing over

module _ (kind flags count : ℕ) (items d : List ℕ) where
  whole_long : length (sheet_head current kind flags count ++ items) ≡ 9 + length items
  whole_long = length-append (sheet_head current kind flags count) items ∙ omega (arith, head_long kind flags count)

  -- refusal 9: nothing was written
  pub no_room : length d < 9 + length items
      → Handed reading_of 9 (sheet_head current kind flags count ++ items) d (reading_of (refused 9 (9 + length items))) d
  no_room h = rw (sym whole_long) (handed_not reading_of 9 (sheet_head current kind flags count ++ items) d (omega (arith, whole_long)))

  -- the head over the buffer's start, the items right behind it
  pub both_laid : (head headed held : List ℕ) → head ≡ sheet_head current kind flags count → 9 + length items ≤ length d
      → headed ≡ laid_at 0 head d → held ≡ laid_at 9 items headed
      → Handed reading_of 9 (sheet_head current kind flags count ++ items) d (Ok (9 + length items)) held
  both_laid head headed held is room first behind =
      let nine : length head ≡ 9 = ap length is ∙ head_long kind flags count in
      let all : held ≡ over (head ++ items) d =
      behind ∙ laid_behind head items d headed 9 nine (first ∙ laid_first head d (omega arith)) room in
      rw (sym whole_long) (handed_over reading_of 9 (sheet_head current kind flags count ++ items) d held (omega (arith, whole_long)) (rw is at all))

-- ---- The pass

-- an area that arrived has at most 4,076 octets
pub arrived_short : (kind flags : ℕ) (area : List ℕ) → arrival_of kind flags (length area) ≡ Ok tt → length area ≤ 4076
arrived_short kind flags area fit = (fit_arrived kind flags area (arrival_of kind flags (length area)) refl fit).short

-- Nothing of 1 to 3 applies.
module _
    (kind flags : ℕ) (area : List ℕ) (fit : arrival_of kind flags (length area) ≡ Ok tt)
    (r : Result Tally Refusal) (made : List ℕ) (room : 2 * length area ≤ length made) (says : PassSays area r made)
  where
    left : area_refusal kind flags area ≡ fault (walk area)
    left = (fit_arrived kind flags area (arrival_of kind flags (length area)) refl fit).left

    -- the first of 4 to 8
    pub framing_refused : (x : Refusal) (d : List ℕ) → r ≡ Err x → Read kind flags area d (Err x) d
    unfolding PassSays
    framing_refused x d q = refused_read kind flags area x d (left ∙ subst (λ (t : Result Tally Refusal). PassSays area t made) q says)

    -- none of them: the items are laid
    module _ (t : Tally) (q : r ≡ Ok t) where
      laid : ItemsLaid area t.count t.written made
      unfolding PassSays
      laid = subst (λ (t : Result Tally Refusal). PassSays area t made) q says

      -- they stand in the buffer
      pub items_within : t.written ≤ length made
      items_within = omega (arith, laid.few, room)

      accepted : area_refusal kind flags area ≡ none
      accepted = left ∙ laid.sound

      sheet_is : sheet_head current kind flags t.count ++ take t.written made ≡ sheet_of kind flags area
      sheet_is = ap (λ (l : List ℕ). sheet_head current kind flags t.count ++ l) laid.holds ∙ sym (sheet_parts kind flags t.count area laid.counts)

      -- what handing over asks for
      pub bounded : Octets area → (kind < 256) × (flags < 256) × (t.count < 65536) × (length (take t.written made) ≤ longest_items)
      bounded o =
          let c = clear kind flags area accepted in
          let fit = items_fit kind flags area (record { octets = o; accepted = accepted }) in
          (kind_octet kind c.kind_ok, flags_octet flags c.flags_ok, omega (arith, fit, laid.counts), omega (arith, laid.few, c.short, ap length laid.holds, laid.long))

      -- what is handed over is what reading answers
      pub handed_read : (items d : List ℕ) (said : Reading) (held : List ℕ) → items ≡ take t.written made
          → Handed reading_of 9 (sheet_head current kind flags t.count ++ items) d said held → Read kind flags area d said held
      unfolding read_answer area_order handing
      handed_read items d said held e h =
          let same : sheet_head current kind flags t.count ++ items ≡ sheet_of kind flags area = rw e sheet_is in
          let answer : handing 9 (sheet_of kind flags area) (length d) ≡ read_answer kind flags area (length d) = rw accepted in
          subst (λ (a : Answer (List ℕ)). Promise (reading_of a) a d said held) answer (rw same at h)
