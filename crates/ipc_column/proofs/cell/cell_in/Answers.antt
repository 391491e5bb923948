use Rattle.ipc_column.specs.Views.{part_columns}
use Rattle.ipc_column.proofs.lending.Slots.{row_values}
use Rattle.ipc_column.proofs.cell.cell_in.Goals as goal

pub member_at-requires-clause-values : goal.member_at-requires-clause-values
member_at-requires-clause-values c =
    row_values (part_columns c.args.body.now c.args.parts.now) c.args.rows c.args.at c.requires.row c.requires.holds
