-- The book, "The numbers", presence: the lines of rules 4, 6 and 7 for plain numbers, by what comes with the area and the number.
-- Assumes nothing.
use Rattle.std.specs.Prelude.{ℕ, Bool, not, ◌&&◌, ◌||◌, [], ◌∷◌, eqb}
use Rattle.meaning.specs.Octets.{is_in, between}
use Rattle.meaning.specs.Jobs.{pap, chap, class, Context}

-- kinds 2, 3, 6: the accounting of a session
abbrev pub is_session : (kind : ℕ) → Bool
is_session kind = is_in kind (2 ∷ 3 ∷ 6 ∷ [])

-- rule 4: what RFC 2866 keeps out of accounting
abbrev pub never_here : (kind number : ℕ) → Bool
never_here kind n = between 2 6 kind && is_in n (2 ∷ 3 ∷ 18 ∷ 24 ∷ [])

-- rule 4: "25 in kinds 2, 3, 6", where flag 4 is asked for
abbrev pub asks_class : (kind number : ℕ) → Bool
asks_class kind n = is_session kind && eqb n 25

-- rule 4: "not permitted here", of a plain number
unfoldable pub not_permitted : Context → (number : ℕ) → Bool
not_permitted c n = never_here c.kind n || (asks_class c.kind n && not (class c.flags))

-- rule 6: "mandatory", of an Access-Request, of a session's accounting, and of ON and OFF (request 1: "Make 40 mandatory in kinds")
unfoldable pub mandatory : Context → (number : ℕ) → Bool
mandatory c n =
    (eqb c.kind 1 && is_in n (1 ∷ 30 ∷ []))
    || ((is_session c.kind && is_in n (8 ∷ 30 ∷ 40 ∷ 44 ∷ [])) || (between 4 5 c.kind && is_in n (40 ∷ [])))

-- rule 7: "Kind 1: 2 with flag 1"
abbrev pub with_pap : (kind number : ℕ) → Bool
with_pap kind n = eqb kind 1 && eqb n 2

-- rule 7: "3 and 60, each"
abbrev pub with_chap : (kind number : ℕ) → Bool
with_chap kind n = eqb kind 1 && is_in n (3 ∷ 60 ∷ [])

-- rule 7: "Kind 2: 25 with flag 4"
abbrev pub with_class : (kind number : ℕ) → Bool
with_class kind n = eqb kind 2 && eqb n 25

-- rule 7: "conditional", of a plain number, where flags name the condition
unfoldable pub conditional : Context → (number : ℕ) → Bool
conditional c n =
    (with_pap c.kind n && pap c.flags)
    || ((with_chap c.kind n && chap c.flags) || (with_class c.kind n && class c.flags))
