-- A column over a body, with those of its children (Arrow Columnar Format, "Physical Memory
-- Layout").
use Rattle.std.specs.Prelude.{ℕ, List, [], ◌∷◌}
use Rattle.ipc_column.specs.declared.ranges.ColumnRanges.{ColumnRanges}
use Rattle.ipc_column.specs.Columns.{Column, Columns, column, none}
use Rattle.ipc_column.specs.Lent.{without_null_count, values_in}
use Rattle.ipc_column.specs.Values.{Cells}
use Rattle.ipc_column.specs.Views.{part_columns}

-- a column, and the body ranges of its children
pub record Nested : Type 0 where
  pub column : Column
  pub body : List ℕ
  pub children : List ColumnRanges

-- the columns of the children
abbrev pub child_columns : Nested → Columns
child_columns n = part_columns n.body n.children

-- the column as the only one of a list
abbrev pub only_column : Nested → Columns
only_column n = column n.column (child_columns n) none

-- the values of all its slots, also of slots that no row refers to
abbrev pub slot_values : Nested → Cells
slot_values n = values_in n.column (child_columns n)

-- the column, and the columns of its children
abbrev pub with_children : Nested → Column × Columns
with_children n = (n.column, child_columns n)

-- each of the columns, its null count set to 0, and the columns of its children
abbrev pub found_columns : Columns → List (Column × Columns)
found_columns none = []
found_columns (column c children rest) = (without_null_count c, children) ∷ found_columns rest
