use Rattle.std.proofs.Common.{◌≡◌, take}
use Rattle.ipc_column.specs.Values.{row, values_from, first_at}
use Rattle.ipc_column.specs.Views.{part_columns}
use Rattle.ipc_column.proofs.owned_rows.+read.Given as goal

abbrev pub invariant-read_items-loop-at : goal.invariant-read_items-loop-at
invariant-read_items-loop-at l = l.values.items ≡ values_from (first_at (part_columns l.body l.parts)) l.from l.at

abbrev pub invariant-read_values-loop-part : goal.invariant-read_values-loop-part
invariant-read_values-loop-part l = l.values.items ≡ take l.part-index (row (part_columns l.body l.parts) l.slot)
