-- The book, "The numbers": shapes and allowed values. A shape is what the value of a carried number has to look like. Assumes nothing.
use Rattle.std.specs.Prelude.{ℕ, ◌+◌, ◌-◌, ◌%◌, Bool, true, cond, ◌&&◌, ◌||◌, List, [], ◌∷◌, eqb, leb, length, take, drop, get_or}
use Rattle.meaning.specs.Octets.{is_in, between, all, same, is_digit, number_of, values}
use Rattle.meaning.specs.Versions.{Version, is_hex_in}
use Rattle.meaning.specs.Jobs.{Context}
use Rattle.meaning.specs.Framing.{gpp, is_plain}

-- "Form 2, four octets", "Form 3", so many digits, "16 hexadecimal digits", a QoS text, "one hexadecimal digit", "any one octet",
-- "one decimal digit"; then the length rules: at least so many octets, "exactly 17", "a multiple of 16"; and no shape
pub data Shape : Type 0 where
  number : Shape
  address : Shape
  digits : (least most : ℕ) → Shape
  hexadecimal : Shape
  qos : Shape
  hex_digit : Shape
  any_octet : Shape
  decimal_digit : Shape
  at_least : (least : ℕ) → Shape
  exactly : (count : ℕ) → Shape
  blocks : Shape
  free : Shape

-- "Plain": the shape of each number that has one
unfoldable pub plain_shape : ℕ → Shape
plain_shape t =
    cond (is_in t (6 ∷ 7 ∷ []) || (between 40 43 t || (between 45 49 t || eqb t 61))) number
    (cond (is_in t (4 ∷ 8 ∷ 9 ∷ [])) address
    (cond (eqb t 31) (digits 1 15)
    (cond (eqb t 44) hexadecimal
    (cond (is_in t (1 ∷ 18 ∷ 24 ∷ 25 ∷ 30 ∷ 32 ∷ [])) (at_least 1)
    (cond (eqb t 2) blocks
    (cond (eqb t 3) (exactly 17)
    (cond (eqb t 60) (at_least 5) free)))))))

-- "3GPP": the shape of each number that has one
unfoldable pub gpp_shape : ℕ → Shape
gpp_shape s =
    cond (eqb s 1) (digits 1 15)
    (cond (is_in s (2 ∷ 3 ∷ [])) number
    (cond (is_in s (4 ∷ 6 ∷ 7 ∷ [])) address
    (cond (eqb s 5) qos
    (cond (is_in s (8 ∷ 9 ∷ 18 ∷ [])) (digits 5 6)
    (cond (eqb s 10) hex_digit
    (cond (eqb s 11) any_octet
    (cond (eqb s 12) decimal_digit free)))))))

-- "Plain. ..", "3GPP. ..": the shape of a carried number
unfoldable pub shape_of : ℕ → Shape
shape_of n = cond (is_plain n) (plain_shape n) (gpp_shape (n - 256))

-- a QoS text of a release: its two digits, "the dash is one octet", then so many hexadecimal digits
abbrev pub release : Version → (one two count : ℕ) → List ℕ → Bool
release ver a b n v = same (take 3 v) (a ∷ b ∷ 45 ∷ []) && (eqb (length v) (3 + n) && all (is_hex_in ver) (drop 3 v))

-- "shape met": the value meets the shape, in a version
unfoldable pub meets : Version → Shape → List ℕ → Bool
meets ver number v = eqb (length v) 4
meets ver address v = eqb (length v) 4
meets ver (digits a b) v = between a b (length v) && all is_digit v
meets ver hexadecimal v = eqb (length v) 16 && all (is_hex_in ver) v
meets ver qos v = release ver 57 56 6 v || release ver 57 57 22 v
meets ver hex_digit v = eqb (length v) 1 && all (is_hex_in ver) v
meets ver any_octet v = eqb (length v) 1
meets ver decimal_digit v = eqb (length v) 1 && all is_digit v
meets ver (at_least n) v = leb n (length v)
meets ver (exactly n) v = eqb (length v) n
meets ver blocks v = between 16 128 (length v) && eqb (length v % 16) 0
meets ver free v = true

-- the Acct-Status-Type that a kind other than 1 asks for
abbrev pub status_of : (kind : ℕ) → ℕ
status_of kind = get_or (1 ∷ 2 ∷ 7 ∷ 8 ∷ 3 ∷ []) (kind - 2) 0

-- "Allowed values, where the shape holds"
unfoldable pub allowed : Context → (number : ℕ) → List ℕ → Bool
allowed c n v =
    cond (eqb n 6) (eqb (number_of v) 2)
    (cond (eqb n 7) (eqb (number_of v) 7)
    (cond (eqb n 45) (is_in (number_of v) (1 ∷ 2 ∷ []))
    (cond (eqb n 49) (between 1 18 (number_of v))
    (cond (eqb n 40) (eqb c.kind 1 || eqb (number_of v) (status_of c.kind))
    (cond (eqb n (gpp 3)) (eqb (number_of v) 0)
    (cond (eqb n (gpp 11)) (eqb (number_of v) 255)
    (cond (eqb n (gpp 12)) (between 0 2 (number_of (values v))) true)))))))
