-- The book, "Breaches": the entries as the code lays them, by an attribute and by the end, from what the code has at hand: the row
-- of the kind, the numbers noted, and whether an earlier attribute carries the number. Assumes nothing.
use Rattle.std.specs.Prelude.{ℕ, ◌+◌, ◌*◌, ◌≤◌, ◌<◌, ◌≡◌, Bool, false, cond, not, ◌&&◌, List, [], ◌∷◌, ◌++◌, map, eqb, ltb, length, get_or, Result, Ok, Err}
use Rattle.std.proofs.lemmas.List.Edits.{sets}
use Rattle.meaning.specs.Octets.{is_in}
use Rattle.meaning.specs.Jobs.{Context}
use Rattle.meaning.specs.Framing.{walk}
use Rattle.meaning.specs.Refusals.{none, fault}
use Rattle.meaning.specs.Codes.{code_demands, code_wants}
use Rattle.meaning.specs.Breaches.{entry, once_only, asks_pdp_type}
use Rattle.meaning.specs.Listing.{Candidate, View, view, put, chosen, along, demandable, wantable, numbers_of, views_of, list_of}
use Rattle.area.specs.declared.Refusal.{Refusal}
use Rattle.area.specs.Answers.{in_book}
use Rattle.checking.specs.Table.{Known, Row}

-- ---- Laying

-- a pass counts no more: two entries for each of 4,076 octets, and twelve at the end
abbrev pub most_entries : ℕ
most_entries = 8164

-- one entry, if it stands
unfoldable pub when : (stands : Bool) (entry : ℕ) → List ℕ
when stands e = put stands e []

-- the buffer d with the entries l over it from a place on, as many as it has room for
unfoldable pub laid_from : (at : ℕ) (l d : List ℕ) → List ℕ
laid_from at l d = sets d at l

-- what a writer of the entries l at a place of the buffer d says, the place behind them all, and what the buffer holds then
pub record LaysEntries (l d : List ℕ) (at said : ℕ) (held : List ℕ) : Type 0 where
  pub counts : said ≡ at + length l
  pub holds : held ≡ laid_from at l d

-- the same of one entry, if it stands
pub record LaysOne (stands : Bool) (entry : ℕ) (d : List ℕ) (at said : ℕ) (held : List ℕ) : Type 0 where
  pub lays : LaysEntries (when stands entry) d at said held
  pub few : said ≤ at + 1

-- ---- At an attribute

-- rule 3: where the search for an earlier attribute ends
unfoldable pub search_end : (number place : ℕ) → ℕ
search_end n place = cond (once_only n) place 0

-- what the rules see of an attribute, by its parts
abbrev pub view_at : Context → (place number : ℕ) (value : List ℕ) → View
view_at c place n v = view c (record { place = place; number = n; value = v })

-- ---- At the end

-- for each carried number, whether it is one of those seen
pub record Notes (seen : List Bool) (numbers : List ℕ) : Type 0 where
  pub long : length seen ≡ 512
  pub says : (n : ℕ) → n < 512 → get_or seen n false ≡ is_in n numbers

-- rule 6 for one number, by the row of the kind
abbrev pub lacks_by : (codes : List ℕ) (seen : List Bool) (place number : ℕ) → Candidate
lacks_by codes seen place n =
    record { key = entry place 6 n; stands = code_demands (get_or codes n 0) && not (get_or seen n false) }

-- whether rule 7 asks for a number, by the row of the kind
unfoldable pub wanted_by : Context → (codes : List ℕ) (seen : List Bool) (number : ℕ) → Bool
wanted_by c codes seen n =
    cond (ltb n 256) (code_wants (get_or codes n 0) c.flags (get_or seen 32 false)) (asks_pdp_type c && get_or seen 7 false)

-- rule 7 for one number, by the row of the kind
abbrev pub wants_by : Context → (codes : List ℕ) (seen : List Bool) (place number : ℕ) → Candidate
wants_by c codes seen place n =
    record { key = entry place 7 n; stands = wanted_by c codes seen n && not (get_or seen n false) }

-- what a test says of some numbers, in their order, is what tells whether the entries of a rule stand that are looked for of them
abbrev pub Tested : (says : ℕ → Bool → Type 0) (by : ℕ → Candidate) (numbers : List ℕ) (place rule : ℕ) → Type 0
Tested says by numbers place rule =
    (k : ℕ) → k < length numbers → (b : Bool) → says (get_or numbers k 0) b
    → by (get_or numbers k 0) ≡ record { key = entry place rule (get_or numbers k 0); stands = b }

-- rules 5 to 7
unfoldable pub end_by : Context → (codes : List ℕ) (seen : List Bool) (place : ℕ) → List Candidate
end_by c codes seen place =
    record { key = entry place 5 3; stands = eqb c.kind 1 && (get_or seen 2 false && get_or seen 3 false) }
    ∷ map (lacks_by codes seen place) demandable
    ++ map (wants_by c codes seen place) wantable

-- ---- The whole

-- an area of at most 4,076 octets that comes with a known kind and its row
pub record Ready (c : Context) (area codes : List ℕ) : Type 0 where
  pub short : length area ≤ 4076
  pub known : Known c.kind
  pub row : Row c codes

-- what a pass over a broken area says, the first refusal of the framing; the buffer keeps its length
pub record Broke (area d : List ℕ) (said : Refusal) (held : List ℕ) : Type 0 where
  pub first : fault (walk area) ≡ in_book said
  pub kept : length held ≡ length d

-- what the pass over a well framed area's attributes says, what the buffer holds then, and that the numbers are noted
pub record WalkedWhole (c : Context) (area d : List ℕ) (said : ℕ) (held : List ℕ) (seen : List Bool) : Type 0 where
  pub sound : fault (walk area) ≡ none
  pub lays : LaysEntries (chosen (along c [] (views_of c (walk area)))) d 0 said held
  pub few : said ≤ 2 * length area
  pub notes : Notes seen (numbers_of (views_of c (walk area)))

-- the same of any area
unfoldable pub AlongSays : Context → (area d : List ℕ) → Result ℕ Refusal → (held : List ℕ) (seen : List Bool) → Type 0
AlongSays c area d (Ok n) held seen = WalkedWhole c area d n held seen
AlongSays c area d (Err r) held seen = Broke area d r held

-- what the pass over a whole area that is well framed says, and what the buffer holds then
pub record Listed (c : Context) (area d : List ℕ) (said : ℕ) (held : List ℕ) : Type 0 where
  pub sound : fault (walk area) ≡ none
  pub lays : LaysEntries (list_of c area) d 0 said held

-- the same of any area
unfoldable pub PassSays : Context → (area d : List ℕ) → Result ℕ Refusal → (held : List ℕ) → Type 0
PassSays c area d (Ok n) held = Listed c area d n held
PassSays c area d (Err r) held = Broke area d r held
