-- How many columns are below a column.
use Rattle.std.specs.Prelude.{ℕ, suc, map, sum}
use Rattle.ipc_column.specs.declared.ranges.ColumnRanges.{ColumnRanges}
use Rattle.ipc_column.specs.declared.ranges.ColumnRanges.TheOpen.{ColumnRanges-F}
use Rattle.ipc_column.specs.declared.ranges.ColumnRanges.TheFolds.{fold-ColumnRanges}
use Rattle.ipc_column.specs.Nested.{Nested}

-- one more than the sum of the children's numbers
abbrev pub count_step : ColumnRanges-F ℕ → ℕ
count_step p = suc (sum p.children.items)

-- how many columns a part has, itself and those below it
abbrev pub count : ColumnRanges → ℕ
count = fold-ColumnRanges ℕ count_step

-- how many columns are below a column
abbrev pub count_below : Nested → ℕ
count_below n = sum (map count n.children)
