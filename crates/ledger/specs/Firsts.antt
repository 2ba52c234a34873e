-- Where the first items stand that the ledger asks for, and what the octets there say. Assumes nothing.
use Rattle.std.specs.Prelude.{ℕ, ◌+◌, cond, ◌&&◌, List, [], ◌∷◌, length, ◌==◌, nat_lt, slice_index, Option, None, Some}
use Rattle.std.specs.Option.{option_or}
use Rattle.meaning.specs.Octets.{number_of}
use Rattle.meaning.specs.Framing.{Attribute, attributes}
use Rattle.meaning.specs.Sheet.{items_in}
use Rattle.octets.specs.Parts.{part_of}
use Rattle.ledger.specs.declared.Firsts.{Firsts}

-- the place of the first of some items that carries a number, if one does
unfoldable pub first_place : (number : ℕ) → List Attribute → Option ℕ
first_place n [] = None
first_place n (a ∷ l) = cond (a.number == n) (Some a.place) (first_place n l)

-- the same of a sheet's items
abbrev pub place_in : (number : ℕ) (sheet : List ℕ) → Option ℕ
place_in n sheet = first_place n (attributes (items_in sheet))

-- the five places
unfoldable pub firsts_of : (sheet : List ℕ) → Firsts
firsts_of sheet =
    record {
      input_octets = place_in 42 sheet;
      output_octets = place_in 43 sheet;
      session = place_in 44 sheet;
      input_packets = place_in 47 sheet;
      output_packets = place_in 48 sheet;
    }

-- the place of the first item of a wanted number, by the first of the items before, with one item more
abbrev pub first_with : (wanted number place : ℕ) (before : Option ℕ) → Option ℕ
first_with m n p before = cond (n == m) (option_or before (Some p)) before

-- the five places with one item more
unfoldable pub firsts_with : Firsts → (number place : ℕ) → Firsts
firsts_with f n p =
    record {
      input_octets = first_with 42 n p f.input_octets;
      output_octets = first_with 43 n p f.output_octets;
      session = first_with 44 n p f.session;
      input_packets = first_with 47 n p f.input_packets;
      output_packets = first_with 48 n p f.output_packets;
    }

-- the place of the octets that the item at a place of a sheet stores, if an item of this form stands there
unfoldable pub value_at : (form : ℕ) (sheet : List ℕ) (place : Option ℕ) → Option ℕ
value_at f l None = None
value_at f l (Some p) = cond (nat_lt p (length l) && slice_index l (p + 2) == f) (Some (p + 4)) None

-- the number in so many octets at a place
abbrev pub number_at : (width : ℕ) (sheet : List ℕ) (place : Option ℕ) → Option ℕ
number_at w l None = None
number_at w l (Some v) = Some (number_of (part_of l v w))

-- the number in so many octets that the item at a place stores, if it has this form
unfoldable pub read_at : (form width : ℕ) (sheet : List ℕ) (place : Option ℕ) → Option ℕ
read_at f w l p = number_at w l (value_at f l p)
