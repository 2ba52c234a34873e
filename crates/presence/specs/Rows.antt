-- The presence table, "a table of 1,536 entries": the row of a kind, and the test over the whole table.
-- Assumes nothing.
use Rattle.std.specs.Prelude.{ℕ, zero, suc, Bool, true, false, cond, ◌&&◌, List, [], ◌∷◌, replicate}
use Rattle.meaning.specs.Octets.{same}
use Rattle.meaning.specs.Jobs.{is_kind, comes}
use Rattle.meaning.specs.Codes.{code}

-- the rule f at i, i + 1, .., of n entries
abbrev pub built : (f : ℕ → ℕ) (i n : ℕ) → List ℕ
built f i zero = []
built f i (suc n) = f i ∷ built f (suc i) n

-- 256 entries by a rule
unfoldable pub row_by : (rule : ℕ → ℕ) → List ℕ
row_by rule = built rule 0 256

-- the codes of a kind's plain numbers; zeros for what is no kind
unfoldable pub row_of : (kind : ℕ) → List ℕ
row_of kind = cond (is_kind kind) (row_by (code (comes kind 0))) (replicate 256 0)

-- "one computed test over the table": it has n rows, from the i-th on, and each has what the rule says of a row and a number
unfoldable pub agrees : (rule : (row number : ℕ) → ℕ) (i n : ℕ) → List (List ℕ) → Bool
agrees rule i zero [] = true
agrees rule i (suc n) (row ∷ rows) = same row (row_by (rule i)) && agrees rule (suc i) n rows
agrees rule i zero (row ∷ rows) = false
agrees rule i (suc n) [] = false

-- the rule of a table of six rows, one for each kind
unfoldable pub by_kind : (row number : ℕ) → ℕ
by_kind row n = code (comes (suc row) 0) n
