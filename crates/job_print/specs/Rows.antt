-- Rows as lines.
use Rattle.ipc_model.specs.declared.table.BatchRows.{BatchRows}
use Rattle.std.specs.Prelude.{ℕ, List, [], ◌∷◌, ◌++◌}
use Rattle.ipc_model.specs.declared.value.Value.{Value}

-- each row as a line, one after another
abbrev pub lines : (List Value → List ℕ) → List (List Value) → List ℕ
lines line_of [] = []
lines line_of (row ∷ rows) = line_of row ++ lines line_of rows

-- batches, one after another: the text before each, by its pairs, and its rows
abbrev pub batch_lines : (List (List ℕ × List ℕ) → List ℕ) → (List Value → List ℕ) → List BatchRows
    → List ℕ
batch_lines head_of line_of [] = []
batch_lines head_of line_of (b ∷ batches) =
    (head_of b.pairs ++ lines line_of b.rows) ++ batch_lines head_of line_of batches

-- the text of the last of these batches; `front` if there is none
abbrev pub last_lines : List ℕ → (List (List ℕ × List ℕ) → List ℕ) → (List Value → List ℕ)
    → List BatchRows → List ℕ
last_lines front head_of line_of [] = front
last_lines front head_of line_of (b ∷ batches) =
    last_lines (head_of b.pairs ++ lines line_of b.rows) head_of line_of batches
