-- Laws of the codes: a number's shape comes back from its code, the tens are its form, and what a code that no shape has means.
-- Assumes nothing.
use mathlib.Core.Path.{◌≡◌, refl, sym, subst}
use mathlib.Core.Bool.{Bool, true, false, cond, ◌&&◌}
use mathlib.Core.List.{List, [], ◌∷◌, map}
use Prim.Native.Nat.{ℕ, ◌-◌, ◌/◌, ◌<◌, ◌≤◌}
use lib.Dec.{T, eqb, leb}
use borrow.Author.Tests.{lt-ltb, le-ltb, ne_eqb, eqb-true}
use types.Run.{OneOf}
use Rattle.meaning.specs.Shapes.{Shape, number, address, digits, hexadecimal, qos, hex_digit, any_octet, decimal_digit, at_least, exactly}
use Rattle.meaning.specs.Shapes.{blocks, free, plain_shape, gpp_shape, shape_of}
use Rattle.meaning.specs.Sheet.{form_of}
use Rattle.meaning.proofs.Tests.{parts}
use Rattle.shape.specs.Codes.{code_of, shapes, shape_among, shape_by}

-- ---- The shape comes back

back_either : (b : Bool) (s t : Shape) → shape_by (code_of (cond b s t)) ≡ cond b (shape_by (code_of s)) (shape_by (code_of t))
back_either true s t = refl
back_either false s t = refl

plain_back : (t : ℕ) → shape_by (code_of (plain_shape t)) ≡ plain_shape t
unfolding plain_shape code_of shape_by
plain_back t = simp back_either

gpp_back : (s : ℕ) → shape_by (code_of (gpp_shape s)) ≡ gpp_shape s
unfolding gpp_shape code_of shape_by
gpp_back s = simp back_either

-- The shape of a carried number comes back from its code.
pub shape_back : (n : ℕ) → shape_by (code_of (shape_of n)) ≡ shape_of n
unfolding shape_of
shape_back n = simp (back_either, plain_back, gpp_back)

-- ---- The code of a number

pub code_plain : (n : ℕ) → n < 256 → code_of (shape_of n) ≡ code_of (plain_shape n)
unfolding shape_of
code_plain n h = rw (lt-ltb n 256 h)

pub code_3gpp : (n : ℕ) → 256 ≤ n → code_of (shape_of n) ≡ code_of (gpp_shape (n - 256))
unfolding shape_of
code_3gpp n h = rw (le-ltb n 256 h)

-- ---- The form

-- The tens of a code are the form of the shape.
pub form_in_code : (s : Shape) → code_of s / 10 ≡ form_of s
unfolding code_of form_of
form_in_code number = refl
form_in_code address = refl
form_in_code (digits a b) = go (eqb a 1)
  where
    go : (c : Bool) → cond c 40 41 / 10 ≡ 4
    go true = refl
    go false = refl
form_in_code hexadecimal = refl
form_in_code qos = refl
form_in_code hex_digit = refl
form_in_code any_octet = refl
form_in_code decimal_digit = refl
form_in_code (at_least n) = go (eqb n 1)
  where
    go : (c : Bool) → cond c 1 2 / 10 ≡ 0
    go true = refl
    go false = refl
form_in_code (exactly n) = refl
form_in_code blocks = refl
form_in_code free = refl

-- ---- The shapes of all codes

-- a test passes at each of some shapes
abbrev pub each : (Shape → Bool) → List Shape → Bool
each p [] = true
each p (s ∷ l) = p s && each p l

among_passes : (p : ℕ → Shape → Bool) (l : List Shape) (code : ℕ) → T (p code free) → T (each (λ s. p (code_of s) s) l)
    → T (p code (shape_among l code))
among_passes p [] code f t = f
among_passes p (s ∷ l) code f t =
    let h = parts (p (code_of s) s) (each (λ (x : Shape). p (code_of x) x) l) t in
    go (eqb code (code_of s)) (shape_among l code) refl h.0 (among_passes p l code f h.1)
  where
    go : (b : Bool) (other : Shape) → eqb code (code_of s) ≡ b → T (p (code_of s) s) → T (p code other) → T (p code (cond b s other))
    go true other e h g = subst (λ (k : ℕ). T (p k s)) (sym (eqb-true code (code_of s) e)) h
    go false other e h g = g

-- a test of a code and its shape that passes at each shape passes at every code
pub every_code : (p : ℕ → Shape → Bool) (code : ℕ) → T (p code free) → T (each (λ s. p (code_of s) s) shapes) → T (p code (shape_by code))
unfolding shape_by
every_code p = among_passes p shapes

-- a test that passes at each shape passes at the shape of every number
pub every_shape : (p : Shape → Bool) → T (p free) → T (each p shapes) → (n : ℕ) → T (p (shape_of n))
every_shape p f t n = subst (λ (s : Shape). T (p s)) (shape_back n) (every_code (λ code s. p s) (code_of (shape_of n)) f t)

-- a shape of digits asks for 1 to 15
abbrev pub fifteen : Shape → Bool
fifteen (digits a b) = leb 1 a && leb b 15
fifteen number = true
fifteen address = true
fifteen hexadecimal = true
fifteen qos = true
fifteen hex_digit = true
fifteen any_octet = true
fifteen decimal_digit = true
fifteen (at_least n) = true
fifteen (exactly n) = true
fifteen blocks = true
fifteen free = true

-- "at most fifteen digits", whatever the number.
pub at_most_fifteen : (n : ℕ) → T (fifteen (shape_of n))
at_most_fifteen = every_shape fifteen tt tt

-- ---- A code behind all arms

-- a number behind the arms of a match: what came before holds, and it is none of theirs
abbrev pub PastArms : (before : Type 0) (n : ℕ) → List (List ℕ) → Type 0
PastArms before n [] = before
PastArms before n (l ∷ arms) = PastArms (before × (OneOf l n → ⊥)) n arms

pub past_before : (before : Type 0) (n : ℕ) (arms : List (List ℕ)) → PastArms before n arms → before
past_before before n [] p = p
past_before before n (l ∷ arms) p = (past_before (before × (OneOf l n → ⊥)) n arms p).0

-- an arm for each number
abbrev pub alone : List ℕ → List (List ℕ)
alone = map (λ k. k ∷ [])

-- a number behind the arms of a match that have one number each
abbrev pub Past : (before : Type 0) (n : ℕ) → List ℕ → Type 0
Past before n l = PastArms before n (alone l)

none_among : (before : Type 0) (l : List Shape) (c : ℕ) → Past before c (map code_of l) → shape_among l c ≡ free
none_among before [] c p = refl
none_among before (s ∷ l) c p =
    rw (ne_eqb c (code_of s) (past_before (before × (c ≡ code_of s → ⊥)) c (alone (map code_of l)) p).1)
    (none_among (before × (c ≡ code_of s → ⊥)) l c p)

-- A code that no shape has tells no shape.
pub no_shape : (c : ℕ) → Past (Unit {0}) c (map code_of shapes) → shape_by c ≡ free
unfolding shape_by
no_shape c p = none_among (Unit {0}) shapes c p
