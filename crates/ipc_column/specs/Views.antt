-- The parts of a batch (`ColumnRanges`) as columns over its body (Arrow Columnar Format,
-- "RecordBatch message").
use Rattle.std.specs.Prelude.{ℕ, List, map}
use Rattle.ipc_column.specs.declared.ranges.ColumnRanges.{ColumnRanges}
use Rattle.ipc_column.specs.declared.ranges.ColumnRanges.TheOpen.{ColumnRanges-F}
use Rattle.ipc_column.specs.declared.ranges.ColumnRanges.TheFolds.{fold-ColumnRanges}
use Rattle.ipc_column.specs.Columns.{Column, Columns, none, column, forest}
use Rattle.ipc_column.specs.Spans.{span_bytes}

-- the column of one part with those of its children, given the children's
abbrev pub part_step : List ℕ → ColumnRanges-F (Column × Columns) → Column × Columns
part_step body p = (
  record {
    layout = p.layout;
    slots = p.slots;
    nulls = p.nulls;
    validity = span_bytes body p.validity;
    offsets = span_bytes body p.offsets;
    values =
        span_bytes body p.values;
    dictionary = p.dictionary;
  },
  forest p.children.items,
)

-- a part's column, and those of its children
abbrev pub part_view : List ℕ → ColumnRanges → Column × Columns
part_view body = fold-ColumnRanges (Column × Columns) (part_step body)

-- the columns of parts
abbrev pub part_columns : List ℕ → List ColumnRanges → Columns
part_columns body ps = forest (map (part_view body) ps)

-- the column of a part, without its children
abbrev pub column_of : List ℕ → ColumnRanges → Column
column_of body p = (part_view body p).0

-- the columns of a part's children
abbrev pub children_of : List ℕ → ColumnRanges → Columns
children_of body p = (part_view body p).1

-- the column of a part with its children, as the only one of a list
abbrev pub one : List ℕ → ColumnRanges → Columns
one body p = column (column_of body p) (children_of body p) none
