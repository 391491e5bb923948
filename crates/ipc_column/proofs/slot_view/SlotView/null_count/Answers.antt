use Rattle.std.proofs.Common.{◌≡◌, ◌<◌, subst, length}
use Rattle.ipc_scalar.specs.Bytes.{clear}
use Rattle.ipc_column.specs.Leaves.{values_or_none}
use Rattle.ipc_column.specs.Lent.{column_of_buffers}
use Rattle.ipc_column.specs.Nested.{Nested, slot_values}
use Rattle.ipc_column.specs.Values.{row, value_of}
use Rattle.ipc_column.specs.Views.{part_columns}
use Rattle.ipc_column.proofs.lending.Slots.{items_length}
use Rattle.ipc_column.proofs.slot_view.SlotView.null_count.Goals as goal

pub returns-clause-with_bitmap : goal.returns-clause-with_bitmap
returns-clause-with_bitmap c =
    let s = c.self.inside in
    let column = column_of_buffers s.layout s.slots s.validity.now s.offsets.now s.values.now (values_or_none s.dictionary) in
    subst (λ (n : Nested). 0 < length n.column.validity → c.count_clear.result ≡ clear n.column.validity (length (slot_values n)))
    c.self.view_is
    (λ some. rw (items_length (value_of (row (part_columns s.body.now s.children.now)) column) 0 s.slots) c.count_clear.ensures)
