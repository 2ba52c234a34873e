-- Codes for the shapes: the tens of a code are the form of the shape, 0 where it has none of
-- its own, and the ones tell the shapes of one form apart. Assumes nothing.
use Rattle.std.specs.Prelude.{ℕ, cond, List, [], ◌∷◌, eqb}
use Rattle.meaning.specs.Shapes.{Shape, number, address, digits, hexadecimal, qos, hex_digit, any_octet, decimal_digit, at_least, exactly}
use Rattle.meaning.specs.Shapes.{blocks, free}

-- the code of a shape
unfoldable pub code_of : Shape → ℕ
code_of number = 20
code_of address = 30
code_of (digits least most) = cond (eqb least 1) 40 41
code_of hexadecimal = 50
code_of qos = 60
code_of hex_digit = 70
code_of any_octet = 71
code_of decimal_digit = 72
code_of (at_least least) = cond (eqb least 1) 1 2
code_of (exactly count) = 3
code_of blocks = 4
code_of free = 0

-- the shapes that the numbers have
abbrev pub shapes : List Shape
shapes =
    at_least 1 ∷ at_least 5 ∷ exactly 17 ∷ blocks ∷ number ∷ address ∷ digits 1 15 ∷ digits 5 6
    ∷ hexadecimal ∷ qos ∷ hex_digit ∷ any_octet ∷ decimal_digit ∷ []

-- the one of some shapes that has the code, and no shape where none has it
abbrev pub shape_among : List Shape → ℕ → Shape
shape_among [] code = free
shape_among (s ∷ l) code = cond (eqb code (code_of s)) s (shape_among l code)

-- the shape of a code
unfoldable pub shape_by : ℕ → Shape
shape_by = shape_among shapes
