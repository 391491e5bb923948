use Rattle.std.proofs.Common.{◌≡◌, ◌<◌, ℕ, length, true}
use Rattle.ipc_column.specs.Nested.{child_columns, slot_values}
use Rattle.ipc_column.specs.Values.{is_valid, row}
use Rattle.ipc_conform.proofs.FittingColumns.{FitsAt}
use Rattle.ipc_conform.proofs.conforming.+slots.Given as goal

-- the values of structs that are not null fit the first fields
abbrev pub invariant-parts_fit-loop-i : goal.invariant-parts_fit-loop-i
invariant-parts_fit-loop-i l = (j : ℕ) → j < length (slot_values l.view) → is_valid l.view.column.validity j ≡ true
    → (k : ℕ) → k < l.i → FitsAt l.fields (row (child_columns l.view) j) k
