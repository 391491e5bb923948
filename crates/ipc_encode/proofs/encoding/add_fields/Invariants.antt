use Rattle.ipc_column.specs.Shapes.{shape_of}
use Rattle.ipc_encode.specs.Buffers.{row_columns}
use Rattle.ipc_encode.specs.Numbers.{new_indices, known_indices}
use Rattle.ipc_encode.specs.Segments.{AddsColumns}
use Rattle.ipc_encode.proofs.Growing.{first}
use Rattle.ipc_encode.proofs.encoding.add_fields.Given as goal

-- the columns of the first fields are added
abbrev pub invariant-loop-i : goal.invariant-loop-i
invariant-loop-i g l = AddsColumns l.limits (new_indices (g.N.Renumber.number l.numbers) (known_indices (g.I.IndexOf.index l.indices)))
    (first l.i (shape_of l.fields)) (row_columns l.batch.rows) l.fn.draft l.draft
