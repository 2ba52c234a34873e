-- Reading and writing undo one another: an area's sheet is judged to be that area, kind and flags, and a sheet that the judgement
-- accepts is the sheet of the area it gives; once over the version. Assumes nothing.
use mathlib.Core.Path.{◌≡◌, refl, ap, ◌∙◌}
use mathlib.Core.List.{List, [], ◌∷◌, ◌++◌}
use Prim.Native.Nat.{ℕ, zero, suc, ◌+◌}
use lib.ListN.{length, drop, take-append-drop}
use lib.Seq.{drop_at}
use Rattle.meaning.specs.Octets.{Octets}
use Rattle.meaning.specs.Versions.{Version}
use Rattle.meaning.specs.Framing.{Attribute, attribute_octets, area_of, Carried, All, Walk, next, from, attributes}
use Rattle.meaning.specs.Refusals.{none, fault}
use Rattle.meaning.specs.Sheet.{item, items_of, Entered, holds, entered, on_item, items}
use Rattle.meaning.proofs.Octets.{octets_take, octets_drop}
use Rattle.meaning.proofs.Forms.{octets_from_stored}
use Rattle.meaning.proofs.Items.{item_entered, entered_holds}
use Rattle.meaning.proofs.Walked.{no_refusal, from_carried}

-- ---- From an area

-- What is written of carried attributes is read as these.
pub record Reread (ver : Version) (p : ℕ) (l : List Attribute) : Type 0 where
  pub as_many : length (attributes (from 0 p (area_of l))) ≡ length l
  pub same_items : items_of ver (attributes (from 0 p (area_of l))) ≡ items_of ver l

pub reread : (ver : Version) (p : ℕ) (l : List Attribute) → All Carried l → Reread ver p l
unfolding from area_of attributes items_of
reread ver p [] c = record { as_many = refl; same_items = refl }
reread ver p (a ∷ l) c =
    let d : List ℕ = attribute_octets a.number a.value in
    let e = from_carried p a.number a.value (area_of l) c.0.carried in
    let r = reread ver (p + length d) l c.1 in
    record {
      as_many = ap (λ (w : Walk). length (attributes w)) e ∙ ap suc r.as_many;
      same_items =
          ap (λ (w : Walk). items_of ver (attributes w)) e
          ∙ ap (λ (m : List ℕ). item ver a.number a.value ++ m) r.same_items;
    }

-- ---- From a sheet

-- The items of carried attributes are judged to be these.
pub record Kept (ver : Version) (p : ℕ) (l : List Attribute) : Type 0 where
  pub sound : fault (items ver (length l) p (items_of ver l)) ≡ none
  pub same_area : area_of (attributes (items ver (length l) p (items_of ver l))) ≡ area_of l

pub kept : (ver : Version) (p : ℕ) (l : List Attribute) → All Carried l → Kept ver p l
unfolding items items_of area_of attributes fault
kept ver p [] c = record { sound = refl; same_area = refl }
kept ver p (a ∷ l) c =
    let it : List ℕ = item ver a.number a.value in
    let here : Attribute = record { place = p; number = a.number; value = a.value } in
    let e : items ver (suc (length l)) p (it ++ items_of ver l) ≡ next here (items ver (length l) (p + length it) (items_of ver l)) =
    rw (item_entered ver a.number a.value (items_of ver l) c.0.carried, drop_at it (items_of ver l) (length it) refl) in
    let r = kept ver (p + length it) l c.1 in
    record {
      sound = ap fault e ∙ r.sound;
      same_area =
          ap (λ (w : Walk). area_of (attributes w)) e
          ∙ ap (λ (m : List ℕ). attribute_octets a.number a.value ++ m) r.same_area;
    }

-- Items that are all accepted are as many as announced, carried, and the octets of the sheet.
pub record Judged (ver : Version) (c : ℕ) (s : List ℕ) (w : Walk) : Type 0 where
  pub as_many : length (attributes w) ≡ c
  pub carried : All Carried (attributes w)
  pub same_octets : items_of ver (attributes w) ≡ s

item_octets : (ver : Version) (n : ℕ) (v : List ℕ) → Octets (item ver n v) → Octets v
unfolding item
item_octets ver n v o = octets_from_stored ver n v o.1.1.1.1

pub judged_items :
    (ver : Version) (c p : ℕ) (s : List ℕ) → Octets s → fault (items ver c p s) ≡ none → Judged ver c s (items ver c p s)
unfolding items attributes fault items_of
judged_items ver zero p [] o e = record { as_many = refl; carried = tt; same_octets = refl }
judged_items ver zero p (x ∷ s) o e = no_refusal 22 p e
judged_items ver (suc c) p s o e = go (entered ver s) refl e (λ size q. judged_items ver c (p + size) (drop size s) (octets_drop size s o) q)
  where
    rest : ℕ → Walk
    rest size = items ver c (p + size) (drop size s)

    go :
        (x : Entered) → entered ver s ≡ x → fault (on_item p rest x) ≡ none
        → ((size : ℕ) → fault (rest size) ≡ none → Judged ver c (drop size s) (rest size))
        → Judged ver (suc c) s (on_item p rest x)
    go (holds n v size) q f ih =
        let a = entered_holds ver s n v size o q in
        let r = ih size f in
        let octets = item_octets ver n v (rw a.same_octets (octets_take size s o)) in
        record {
          as_many = ap suc r.as_many;
          carried = (record { low = a.low; carried = a.carried; octets = octets }, r.carried);
          same_octets = rw (a.same_octets, r.same_octets) (take-append-drop size s);
        }
    go (Entered.refused k) q f ih = no_refusal k p f
