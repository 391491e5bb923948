use Rattle.std.proofs.Common.{subst}
use Rattle.ipc_column.specs.Leaves.{values_or_none}
use Rattle.ipc_column.specs.Nested.{Nested, slot_values}
use Rattle.ipc_column.specs.checks.Plain.{IsShownBy}
use Rattle.std.specs.List.{AllByRecursion}
use Rattle.ipc_column.specs.Lent.{column_of_buffers}
use Rattle.ipc_column.specs.Views.{part_columns}
use Rattle.ipc_column.proofs.Plain.{all_shown}
use Rattle.ipc_column.proofs.slot_view.SlotView.layout.Goals as goal

pub returns-clause-values : goal.returns-clause-values
returns-clause-values c =
    let s = c.self.inside in
    rw c.layout_over.ensures.layout
    (subst (λ (n : Nested). AllByRecursion (IsShownBy s.layout) (slot_values n)) c.self.view_is
    (all_shown (column_of_buffers s.layout s.slots s.validity.now s.offsets.now s.values.now (values_or_none s.dictionary))
    (part_columns s.body.now s.children.now)
    c.layout_over.ensures.bytes c.self.invariant.values))
