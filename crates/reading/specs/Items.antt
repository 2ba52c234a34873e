-- The book, "The sheet": the octets of an item, of the items and of the sheet's head, as the writers lay them. Assumes nothing.
use Rattle.std.specs.Prelude.{ℕ, ◌+◌, ◌*◌, ◌≤◌, ◌≡◌, List, [], ◌∷◌, ◌++◌, length, take, Result, Ok, Err}
use Rattle.meaning.specs.Versions.{current}
use Rattle.meaning.specs.Framing.{walk, attributes}
use Rattle.meaning.specs.Refusals.{none, fault}
use Rattle.meaning.specs.Sheet.{type_of, sub_of, items_of}
use Rattle.octets.specs.Parts.{Begun}
use Rattle.area.specs.declared.Part.{Part}
use Rattle.area.specs.declared.Refusal.{Refusal}
use Rattle.area.specs.Answers.{in_book}
use Rattle.shape.specs.declared.Item.{Item}
use Rattle.shape.specs.declared.Value.TheVariants.{Plain}
use Rattle.shape.specs.Items.{stored_in}
use Rattle.reading.specs.declared.Tally.{Tally}

-- "never longer than 9 + 2" times the area's length: the octets that the items of an area can have
abbrev pub longest_items : ℕ
longest_items = 2 * 4076

-- "type, sub-attribute number" of a carried number
unfoldable pub names_of : (number : ℕ) → List ℕ
names_of n = type_of n ∷ sub_of n ∷ []

-- "type, sub-attribute number, form, count" and what is stored: the octets of an item that speaks of an area
unfoldable pub item_in : (area : List ℕ) → Item → List ℕ
item_in area i = names_of i.number ++ i.form ∷ i.count ∷ stored_in area i

-- an item whose plain octets lie in the area, and in form 6 have a release before the digits
pub record Within (area : List ℕ) (i : Item) : Type 0 where
  pub inside : (p : Part) → i.value ≡ Plain p → p.start + p.len ≤ length area
  pub released : (p : Part) → i.value ≡ Plain p → i.form ≡ 6 → 3 ≤ p.len

-- what a writer of the octets s at a place of the buffer d says, how many they are; and what the buffer holds then
pub record LaidCounted (at : ℕ) (s d : List ℕ) (said : ℕ) (held : List ℕ) : Type 0 where
  pub says : said ≡ length s
  pub holds : Begun at s d held

-- the items of an area, one behind the other
unfoldable pub area_items : (area : List ℕ) → List ℕ
area_items area = items_of current (attributes (walk area))

-- what a pass over a well framed area says: how many items it has and how many octets these are; and what the buffer starts with
-- then, the items
pub record ItemsLaid (area : List ℕ) (count written : ℕ) (held : List ℕ) : Type 0 where
  pub sound : fault (walk area) ≡ none
  pub counts : count ≡ length (attributes (walk area))
  pub long : written ≡ length (area_items area)
  pub few : written ≤ 2 * length area
  pub holds : take written held ≡ area_items area

-- the same of any area
unfoldable pub PassSays : (area : List ℕ) → Result Tally Refusal → (held : List ℕ) → Type 0
PassSays area (Ok t) held = ItemsLaid area t.count t.written held
PassSays area (Err r) held = fault (walk area) ≡ in_book r
