-- What the entries of the presence table stand for. Computed from the presence lines: no reader has to believe it, since `code_bars_lem`,
-- `code_demands_lem` and `code_wants_lem` of proofs/Presence show that an entry says what the lines say. Assumes nothing.
use Rattle.std.specs.Prelude.{ℕ, Bool, cond, not, ◌&&◌, ◌||◌, [], ◌∷◌, eqb}
use Rattle.meaning.specs.Octets.{is_in}
use Rattle.meaning.specs.Jobs.{pap, chap, class, Context}
use Rattle.meaning.specs.Presence.{never_here, asks_class, mandatory, with_pap, with_chap, with_class}

-- "one for each kind and number": what the entry holds, whatever the flags. 0: nothing is said; 1: mandatory; 2: not permitted;
-- 3: not permitted without flag 4; 4: that, and conditional with flag 4; 5: conditional with flag 1; 6: conditional with flag 2;
-- 7: conditional where 32 is absent.
unfoldable pub code : Context → (number : ℕ) → ℕ
code c n =
    cond (mandatory c n) 1
    (cond (never_here c.kind n) 2
    (cond (with_class c.kind n) 4
    (cond (asks_class c.kind n) 3
    (cond (with_pap c.kind n) 5 (cond (with_chap c.kind n) 6 (cond (eqb n 4) 7 0))))))

-- what an entry says of rule 4, with flags
unfoldable pub code_bars : (code flags : ℕ) → Bool
code_bars c flags = eqb c 2 || (is_in c (3 ∷ 4 ∷ []) && not (class flags))

-- what an entry says of rule 6
unfoldable pub code_demands : (code : ℕ) → Bool
code_demands c = eqb c 1

-- what an entry says of rule 7, with flags and whether 32 is present
unfoldable pub code_wants : (code flags : ℕ) (named : Bool) → Bool
code_wants c flags named =
    ((eqb c 5 && pap flags) || ((eqb c 6 && chap flags) || (eqb c 4 && class flags))) || (eqb c 7 && not named)
