-- What comes of many: filed where each is filed, trouble where there is trouble with one. Assumes nothing.
use mathlib.Core.Path.{◌≡◌, refl}
use mathlib.Core.Bool.{true, false}
use mathlib.Core.List.{List, [], ◌∷◌}
use Rattle.filing.specs.declared.Outcome.{Outcome}
use Rattle.filing.specs.declared.Outcome.TheVariants.{Filed, Refused, Trouble}
use Rattle.filing.specs.Outcomes.{all_of, filed, trouble, all_filed, some_trouble}

-- where there was trouble it stays, and all is not filed
troubled : (l : List Outcome) → trouble (all_of Trouble l) ≡ true
troubled [] = refl
troubled (o ∷ l) = troubled l

troubled_not_filed : (l : List Outcome) → filed (all_of Trouble l) ≡ false
troubled_not_filed [] = refl
troubled_not_filed (o ∷ l) = troubled_not_filed l

-- where one was refused, all is not filed
refused_not_filed : (l : List Outcome) → filed (all_of Refused l) ≡ false
refused_not_filed [] = refl
refused_not_filed (Filed ∷ l) = refused_not_filed l
refused_not_filed (Refused ∷ l) = refused_not_filed l
refused_not_filed (Trouble ∷ l) = troubled_not_filed l

-- All is filed if and only if each is: the digit 0 is not told of a sheet that was not filed.
pub filed_all : (l : List Outcome) → filed (all_of Filed l) ≡ all_filed l
filed_all [] = refl
filed_all (Filed ∷ l) = filed_all l
filed_all (Refused ∷ l) = refused_not_filed l
filed_all (Trouble ∷ l) = troubled_not_filed l

refused_on : (l : List Outcome) → trouble (all_of Refused l) ≡ some_trouble l
refused_on [] = refl
refused_on (Filed ∷ l) = refused_on l
refused_on (Refused ∷ l) = refused_on l
refused_on (Trouble ∷ l) = troubled l

-- There is trouble if and only if there is trouble with one.
pub trouble_with_one : (l : List Outcome) → trouble (all_of Filed l) ≡ some_trouble l
trouble_with_one [] = refl
trouble_with_one (Filed ∷ l) = trouble_with_one l
trouble_with_one (Refused ∷ l) = refused_on l
trouble_with_one (Trouble ∷ l) = troubled l
