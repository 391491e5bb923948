use Rattle.std.proofs.Common.{◌≡◌, take}
use Rattle.ipc_column.specs.Values.{row}
use Rattle.ipc_column.specs.Views.{part_columns}
use Rattle.ipc_column.proofs.owned_rows.read_row.Given as goal

abbrev pub invariant-loop-part : goal.invariant-loop-part
invariant-loop-part l = l.values.items ≡ take l.part-index (row (part_columns l.body l.parts) l.at)
