-- Lines, computed. Assumes nothing.
use mathlib.Core.Path.{◌≡◌, refl}
use mathlib.Core.List.{[], ◌∷◌}
use Rattle.meaning.specs.Octets.{octets_of, unpack, text}
use Rattle.lines.specs.Lines.{decimal_in, decimal, entry_digits, refusal_line, entry_with, entries_with, second_told}

-- `refused 4 0`: P6
pub refused_4 : refusal_line 4 0 ≡ 114 ∷ 101 ∷ 102 ∷ 117 ∷ 115 ∷ 101 ∷ 100 ∷ 32 ∷ 52 ∷ 32 ∷ 48 ∷ 10 ∷ []
unfolding refusal_line decimal decimal_in
refused_4 = refl

-- `refused 10 4`
pub refused_10 : refusal_line 10 4 ≡ 114 ∷ 101 ∷ 102 ∷ 117 ∷ 115 ∷ 101 ∷ 100 ∷ 32 ∷ 49 ∷ 48 ∷ 32 ∷ 52 ∷ 10 ∷ []
unfolding refusal_line decimal decimal_in
refused_10 = refl

-- `refused 3 18446744073709551615`: the largest number of 64 bits
pub refused_3 :
    refusal_line 3 18446744073709551615
    ≡ 114 ∷ 101 ∷ 102 ∷ 117 ∷ 115 ∷ 101 ∷ 100 ∷ 32 ∷ 51 ∷ 32
    ∷ 49 ∷ 56 ∷ 52 ∷ 52 ∷ 54 ∷ 55 ∷ 52 ∷ 52 ∷ 48 ∷ 55 ∷ 51 ∷ 55 ∷ 48 ∷ 57 ∷ 53 ∷ 53 ∷ 49 ∷ 54 ∷ 49 ∷ 53 ∷ 10 ∷ []
unfolding refusal_line decimal decimal_in
refused_3 = refl

-- `00641A08`: the first of P2
pub entry_p2 : entry_with 10 6560264 ≡ 48 ∷ 48 ∷ 54 ∷ 52 ∷ 49 ∷ 65 ∷ 48 ∷ 56 ∷ 10 ∷ []
unfolding entry_with entry_digits octets_of unpack text
entry_p2 = refl

-- `00060100` and `00070400` with a space behind each
pub entries_two :
    entries_with 32 (393472 ∷ 459776 ∷ [])
    ≡ 48 ∷ 48 ∷ 48 ∷ 54 ∷ 48 ∷ 49 ∷ 48 ∷ 48 ∷ 32 ∷ 48 ∷ 48 ∷ 48 ∷ 55 ∷ 48 ∷ 52 ∷ 48 ∷ 48 ∷ 32 ∷ []
unfolding entries_with entry_with entry_digits octets_of unpack text
entries_two = refl

-- an area of 4,077 octets is told with kind and flags left out; another refusal's second number stays
pub told_3 : second_told 3 4077 4079 ≡ 4077
unfolding second_told
told_3 = refl

pub told_4 : second_told 4 7 4079 ≡ 7
unfolding second_told
told_4 = refl
