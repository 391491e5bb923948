use Rattle.std.proofs.Common.{sym, ap}
use Rattle.ipc_column.specs.Nested.{Nested}
use Rattle.ipc_column.proofs.slot_view.SlotView.at.Goals as goal

pub at_layout-requires-clause-layout : goal.at_layout-requires-clause-layout
at_layout-requires-clause-layout c = ap (λ (n : Nested). n.column.layout) (sym c.self.view_is)
