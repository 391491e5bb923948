use Rattle.std.proofs.Common.{◌∙◌, sym, ap, length, ◌-◌}
use Rattle.ipc_column.specs.Values.{Cells, first_at}
use Rattle.ipc_column.specs.Views.{part_columns}
use Rattle.ipc_column.proofs.lending.Slots.{items_length}
use Rattle.ipc_column.proofs.cell.ListCell.len.Goals as goal

pub returns : goal.returns
returns c =
    sym (items_length (first_at (part_columns c.self.inside.body.now c.self.inside.parts.now)) c.self.inside.from
    (c.self.inside.to - c.self.inside.from)) ∙ ap (λ (r : Cells). length r) c.self.view_is
