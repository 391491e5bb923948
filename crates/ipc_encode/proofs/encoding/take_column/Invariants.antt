use Rattle.std.proofs.Common.{[], take}
use Rattle.ipc_model.specs.declared.layout.Layout.{Layout}
use Rattle.ipc_column.specs.Shapes.{Shape}
use Rattle.ipc_encode.specs.Built.{IsColumn, IsNode}
use Rattle.ipc_encode.specs.Cells.{cells}
use Rattle.ipc_encode.specs.Numbers.{known_indices}
use Rattle.ipc_encode.proofs.encoding.take_column.Given as goal

-- the column has the values of the first rows
abbrev pub invariant-loop-row : goal.invariant-loop-row
invariant-loop-row g l = (layout : Layout) (children : Shape)
    → IsNode (IsColumn (known_indices (g.I.IndexOf.index l.indices)) l.limits) layout children l.fn.node []
    → IsNode (IsColumn (known_indices (g.I.IndexOf.index l.indices)) l.limits) layout children l.node
    (take l.row (cells l.column l.batch.rows))
