use Rattle.std.proofs.Common.{◌≡◌, ◌∙◌, refl, sym, subst, List, length}
use Rattle.std.proofs.lemmas.List.{with_items_is}
use Rattle.ipc_column.specs.Shapes.{shape_of}
use Rattle.ipc_encode.specs.declared.tree.Node.{Node}
use Rattle.ipc_encode.specs.Buffers.{row_columns}
use Rattle.ipc_encode.specs.Built.{AreNodes, BeginsWith, HoldColumns}
use Rattle.ipc_encode.proofs.Steps.{cells_length}
use Rattle.ipc_encode.proofs.builder.Builder.cut_row.Goals as goal

pub returns-clause-rows : goal.returns-clause-rows
returns-clause-rows c = λ known limits fields rows h.
    let builder = c.args.self.now in
    let nodes = builder.nodes in
    let begun = subst (λ (ns : List Node). AreNodes (BeginsWith known builder.bounds) (shape_of fields) ns (row_columns rows))
    (sym c.deref_mut.ensures.value) h.columns_begin in
    let size : length c.cut_nodes.new.nodes ≡ nodes.len = c.cut_nodes.auto.nodes ∙ c.deref_mut.ensures.len in
    record {
      limits_are = h.limits_are;
      works = refl;
      count = h.count;
      bounded = record { few = h.bounded.few; less = h.bounded.less; shared = h.bounded.shared };
      columns_are = subst (λ (ns : List Node). HoldColumns known builder.bounds (shape_of fields) ns (row_columns rows))
          (sym (with_items_is nodes c.cut_nodes.new.nodes size))
          (c.cut_nodes.ensures known builder.bounds (shape_of fields) (row_columns rows) (λ j. cells_length j rows ∙ sym h.count) begun);
    }
