use Rattle.ipc_column.specs.Nested.{slot_values}
use Rattle.ipc_column.specs.Shapes.{shape_of}
use Rattle.ipc_encode.specs.Buffers.{child_values}
use Rattle.ipc_encode.specs.Numbers.{Numbering}
use Rattle.ipc_encode.specs.Segments.{AddsColumns}
use Rattle.ipc_encode.proofs.Growing.{first}
use Rattle.ipc_encode.proofs.whole_columns.+add_whole.Given as goal

-- the columns of the first fields are added
abbrev pub invariant-add_children-loop-i : goal.invariant-add_children-loop-i
invariant-add_children-loop-i l = (known : Numbering) → AddsColumns l.limits known (first l.i (shape_of l.fields))
    (child_values l.view.column.layout (slot_values l.view)) l.fn.draft l.draft
