use Rattle.std.proofs.Common.{◌∙◌, sym, ap, length}
use Rattle.ipc_column.specs.Leaves.{values_or_none}
use Rattle.ipc_column.specs.Lent.{column_of_buffers}
use Rattle.ipc_column.specs.Nested.{Nested, slot_values}
use Rattle.ipc_column.specs.Values.{row, value_of}
use Rattle.ipc_column.specs.Views.{part_columns}
use Rattle.ipc_column.proofs.lending.Slots.{items_length}
use Rattle.ipc_column.proofs.slot_view.SlotView.len.Goals as goal

pub returns : goal.returns
returns c =
    let s = c.self.inside in
    sym (items_length (value_of (row (part_columns s.body.now s.children.now))
    (column_of_buffers s.layout s.slots s.validity.now s.offsets.now s.values.now (values_or_none s.dictionary))) 0 s.slots)
    ∙ ap (λ (n : Nested). length (slot_values n)) c.self.view_is
