use Rattle.std.proofs.Common.{◌≡◌}
use Rattle.ipc_column.specs.Values.{rows_of}
use Rattle.ipc_column.specs.Views.{part_columns}
use Rattle.ipc_column.proofs.owned_rows.rows_in.Given as goal

abbrev pub invariant-loop-at : goal.invariant-loop-at
invariant-loop-at l = l.all.items ≡ rows_of (part_columns l.body l.parts) l.at
