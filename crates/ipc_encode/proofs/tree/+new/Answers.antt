use Rattle.std.proofs.Common.{◌≡◌, ◌∙◌, sym, ap, subst, List, []}
use Rattle.std.proofs.lemmas.List.{take_more}
use Rattle.ipc_model.specs.declared.layout.Layout.{Layout}
use Rattle.ipc_model.specs.declared.schema.Field.{Field, out-Field}
use Rattle.ipc_model.specs.declared.schema.Field.TheFolds.{fold_out-Field}
use Rattle.ipc_model.specs.Layouts.{layout}
use Rattle.ipc_column.specs.Shapes.{Shape, field_shape, shape_step, shape_of}
use Rattle.ipc_encode.specs.Built.{IsColumn, HoldColumns}
use Rattle.ipc_encode.proofs.Steps.{laid_as}
use Rattle.ipc_encode.proofs.Growing.{node_is, node_more, below_nothing}
use Rattle.ipc_encode.proofs.tree.+new.Goals as goal

-- the layout and the children of a field
step : (f : Field) → field_shape f ≡ (layout (out-Field f).kind (out-Field f).dictionary, shape_of (out-Field f).children)
step f = fold_out-Field (Layout × Shape) shape_step f

pub new_node-returns : goal.new_node-returns
new_node-returns t c = λ known limits.
    let shape = step c.args.field.now in
    let laid : c.layout_of.result ≡ (field_shape c.args.field.now).0 =
    c.layout_of.ensures ∙ sym (ap (λ (s : Layout × Shape). s.0) shape) in
    let column = laid_as known limits _ _ [] laid (c.in_ok-column.ensures known limits) in
    let inner : shape_of c.as_slice.result.now ≡ (field_shape c.args.field.now).1 =
    ap (λ (fs : List Field). shape_of fs) c.as_slice.ensures ∙ sym (ap (λ (s : Layout × Shape). s.1) shape) in
    let children = subst (λ (s : Shape). HoldColumns known limits s c.in_ok-children.children.items (λ j. [])) inner
    (c.in_ok-children.ensures known limits) in
    node_is (IsColumn known limits) (field_shape c.args.field.now).0 (field_shape c.args.field.now).1 [] _ column
    (below_nothing (IsColumn known limits) (field_shape c.args.field.now).0 (field_shape c.args.field.now).1 _ children)

pub new_nodes-loop-field-preserved : goal.new_nodes-loop-field-preserved
new_nodes-loop-field-preserved t c = λ known limits.
    rw (
      take_more c.args.fields.now c.loop-field.field-index c.field-item.result c.loop-field-test.true,
      ← c.field-item.is,
      c.in_ok-push.ensures.items,
    ) (node_more (IsColumn known limits) _ c.loop-field.nodes.items c.field-item.result _ (c.loop-field.invariant known limits)
    (c.in_ok-new_node.ensures known limits))
