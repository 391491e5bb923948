use Rattle.std.proofs.Common.{sym, subst, ℕ, ◌++◌, List, [], ◌∷◌, length-append, arith}
use Rattle.ipc_model.specs.declared.value.Value.{Value}
use Rattle.ipc_column.specs.Shapes.{shape_of}
use Rattle.ipc_encode.specs.Buffers.{row_columns}
use Rattle.ipc_encode.specs.Built.{HoldColumns}
use Rattle.ipc_encode.specs.Cells.{cell}
use Rattle.ipc_encode.proofs.Beginnings.{nodes_begin, nodes_less}
use Rattle.ipc_encode.proofs.Growing.{fewer_within}
use Rattle.ipc_encode.proofs.Held.{columns_push, still_stored}
use Rattle.ipc_encode.proofs.builder.Builder.pop.Goals as goal

pub returns-clause-rows : goal.returns-clause-rows
returns-clause-rows c = λ known limits fields rows row h.
    let builder = c.args.self.now in
    let begun = nodes_less known builder.bounds (shape_of fields) builder.nodes.items (row_columns rows) (λ j. cell j row ∷ [])
    (nodes_begin known builder.bounds (shape_of fields) builder.nodes.items (λ j. row_columns rows j ++ cell j row ∷ [])
    (subst (λ (given : ℕ → List Value). HoldColumns known builder.bounds (shape_of fields) builder.nodes.items given)
    (sym (columns_push rows row)) h.columns_are)) in
    let size = length-append rows (row ∷ []) in
    still_stored known limits fields rows c.cut_row.new.self (fewer_within limits fields rows (row ∷ []) h.within)
    (c.cut_row.ensures.rows known limits fields rows (record {
      limits_are = h.limits_are;
      count = omega (arith, h.count, size, c.saturating_sub-self.ensures);
      bounded = record { few = h.bounded.few; less = h.bounded.less; shared = h.bounded.shared };
      columns_begin = begun;
    }))
