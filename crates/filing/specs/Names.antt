-- Names: a line of a list, what two names may be, the folder of a path, and the temporary file's name. Assumes nothing.
use Rattle.std.specs.Prelude.{ℕ, suc, ◌+◌, ◌-◌, ◌≡◌, Bool, true, false, cond, List, [], ◌∷◌, ◌++◌, eqb, ltb, leb, length, take, drop, get_or}
use Rattle.std.specs.Prelude.{Option, None, Some, Result, Ok, Err}
use Rattle.octets.specs.Parts.{laid_at}
use Rattle.filing.specs.declared.BadLine.{BadLine}
use Rattle.filing.specs.declared.BadLine.TheVariants.{NoTab, TwoTabs}
use Rattle.filing.specs.declared.BadPair.{BadPair}
use Rattle.filing.specs.declared.BadPair.TheVariants.{NoName, ZeroOctet, TooLong, CarriageReturn}

-- the octets before the first x, or all of them
unfoldable pub up_to : (x : ℕ) → List ℕ → ℕ
up_to x [] = 0
up_to x (y ∷ l) = cond (eqb y x) 0 (suc (up_to x l))

-- what a line says whose first tab has `tab` octets before it: the tab's place, or what is wrong
unfoldable pub line_with : (line : List ℕ) (tab : ℕ) → Result ℕ BadLine
line_with l tab =
    cond (leb (length l) tab) (Err NoTab)
    (cond (ltb (up_to 9 (drop (tab + 1) l)) (length l - (tab + 1))) (Err TwoTabs)
    (Ok tab))

-- what a line says: IN, a tab (9) and OUT
unfoldable pub line_of : List ℕ → Result ℕ BadLine
line_of l = line_with l (up_to 9 l)

-- whether the last octet of a name is a carriage return (13)
unfoldable pub ends_in_return : List ℕ → Bool
ends_in_return l = eqb (get_or l (length l - 1) 0) 13

-- what two names are by their ends: a carriage return there is taken for a part of the name only where names come exactly
unfoldable pub pair_by_ends : (exact : Bool) (input out : List ℕ) → Result (Unit {0}) BadPair
pair_by_ends exact i o =
    cond exact (Ok tt)
    (cond (ends_in_return i) (Err CarriageReturn)
    (cond (ends_in_return o) (Err CarriageReturn)
    (Ok tt)))

-- the first that is wrong with two names, or that they fit
unfoldable pub pair_of : (exact : Bool) (input out : List ℕ) → Result (Unit {0}) BadPair
pair_of exact i o =
    cond (eqb (length i) 0) (Err NoName)
    (cond (eqb (length o) 0) (Err NoName)
    (cond (ltb (up_to 0 i) (length i)) (Err ZeroOctet)
    (cond (ltb (up_to 0 o) (length o)) (Err ZeroOctet)
    (cond (ltb 4095 (length i)) (Err TooLong)
    (cond (ltb 4086 (length o)) (Err TooLong)
    (pair_by_ends exact i o))))))

-- whether two names fit
abbrev pub fits : Result (Unit {0}) BadPair → Bool
fits (Ok x) = true
fits (Err e) = false

-- the octets up to the last slash (47) of a path, of which `at` octets have passed and `found` was the answer so far
unfoldable pub folder_from : (at found : ℕ) → List ℕ → ℕ
folder_from at found [] = found
folder_from at found (x ∷ l) = folder_from (at + 1) (cond (eqb x 47) (at + 1) found) l

-- the octets of a path up to its last slash, the slash included
unfoldable pub folder_length : List ℕ → ℕ
folder_length l = folder_from 0 0 l

-- what stands before and behind OUT's last name: `.gir-` and `.tmp`
abbrev pub dot_gir : List ℕ
dot_gir = 46 ∷ 103 ∷ 105 ∷ 114 ∷ 45 ∷ []

abbrev pub dot_tmp : List ℕ
dot_tmp = 46 ∷ 116 ∷ 109 ∷ 112 ∷ []

-- OUT's folder, `.gir-`, OUT's last name, `.tmp`
unfoldable pub temporary_name : List ℕ → List ℕ
temporary_name out = take (folder_length out) out ++ (dot_gir ++ (drop (folder_length out) out ++ dot_tmp))

-- how long the temporary file's name is, if there is room for it, and what the lent buffer holds then
pub record Named (out buffer : List ℕ) (said : Option ℕ) (held : List ℕ) : Type 0 where
  pub says : said ≡ cond (leb (length out + 9) (length buffer)) (Some (length out + 9)) None
  pub holds : held ≡ laid_at 0 (temporary_name out) buffer
