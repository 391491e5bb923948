use Rattle.std.proofs.Common.{◌∙◌, sym, subst, ℕ, ◌<◌, ◌≤◌, List, length, arith}
use Rattle.std.proofs.lemmas.Result.{err_from_is_err_and, on_ok_weaker, IfErr-weaker}
use Rattle.ipc_model.specs.declared.value.Value.{Value}
use Rattle.ipc_column.specs.Nested.{only_column, slot_values}
use Rattle.ipc_column.specs.checks.Rules.{HasUtf8Texts}
use Rattle.ipc_column.specs.Shapes.{bare, field, child_shape, field_layout, field_shape}
use Rattle.ipc_encode.specs.Cells.{cells}
use Rattle.ipc_encode.specs.Numbers.{new_indices, known_indices}
use Rattle.ipc_encode.specs.Segments.{AddsColumns, AreRefusedAfter}
use Rattle.ipc_encode.proofs.Copied.{column_cells}
use Rattle.ipc_encode.proofs.SegmentColumns.{pushes_refused}
use Rattle.ipc_encode.specs.declared.segments.Draft.{Draft}
use Rattle.ipc_encode.proofs.encoding.add_field.Goals as goal

pub add_whole-requires-clause-whole : goal.add_whole-requires-clause-whole
add_whole-requires-clause-whole g c =
    let view = c.slots-view.result in
    let spelled : (i : ℕ) → i < length (slot_values view) → HasUtf8Texts (only_column view) i = λ i m.
    c.slots-view.ensures.texts i (subst (λ (vs : List Value). i < length vs) c.slots-view.ensures.values m) in
    c.has_field_layout.ensures c.if-has_field_layout.true spelled

pub returns-then-has_field_layout-clause-adds : goal.returns-then-has_field_layout-clause-adds
returns-then-has_field_layout-clause-adds g c =
    let known = new_indices (g.N.Renumber.number c.args.numbers.now) (known_indices (g.I.IndexOf.index c.args.indices.now)) in
    let same = column_cells c.args.batch.now.rows c.args.column c.column.result c.column.ensures ∙ sym c.slots-view.ensures.values in
    on_ok_weaker c.add_whole.result
    (λ h. subst (λ (vs : List Value). AddsColumns c.args.limits.now known
    (field (field_layout c.args.field.now) (child_shape c.args.field.now) bare) (λ j. vs) c.args.draft.now c.add_whole.new.draft)
    (sym same) h)
    (c.add_whole.ensures.adds known)

pub returns-then-has_field_layout-clause-refused : goal.returns-then-has_field_layout-clause-refused
returns-then-has_field_layout-clause-refused g c =
    let same = column_cells c.args.batch.now.rows c.args.column c.column.result c.column.ensures ∙ sym c.slots-view.ensures.values in
    IfErr-weaker c.add_whole.result _ _
    (λ fault h. subst (λ (vs : List Value). AreRefusedAfter c.args.limits.now c.args.draft.now.len
    (field (field_layout c.args.field.now) (child_shape c.args.field.now) bare) (λ j. vs) fault) (sym same) h)
    c.add_whole.ensures.refused

-- ---- built anew

pub add_node-requires : goal.add_node-requires
add_node-requires g c = subst (λ (d : Draft). d.len ≤ c.args.limits.now.body) (sym (c.in_ok-is_added.ensures.none c.if-is_added.false))
    c.requires

pub returns-in_err-take_column-clause-refused : goal.returns-in_err-take_column-clause-refused
returns-in_err-take_column-clause-refused g c =
    let known = known_indices (g.I.IndexOf.index c.args.indices.now) in
    let limits = c.args.limits.now in
    let lay = (field_shape c.args.field.now).0 in
    let ch = (field_shape c.args.field.now).1 in
    let values = cells c.args.column c.args.batch.now.rows in
    let p = err_from_is_err_and c.from_residual-in_err-take_column.result c.from_residual-in_err-take_column.ensures.1 in
    rw (p.1, p.2) (pushes_refused limits c.args.draft.now.len (field lay ch bare) (λ j. values) c.in_err-take_column.field-0.0
    (c.in_err-take_column.ensures.refused lay ch (c.in_ok-node.ensures known limits)))

pub returns-clause-adds : goal.returns-clause-adds
returns-clause-adds g c =
    let known = known_indices (g.I.IndexOf.index c.args.indices.now) in
    let new = new_indices (g.N.Renumber.number c.args.numbers.now) known in
    let limits = c.args.limits.now in
    let lay = (field_shape c.args.field.now).0 in
    let ch = (field_shape c.args.field.now).1 in
    let values = cells c.args.column c.args.batch.now.rows in
    let same = c.in_ok-is_added.ensures.none c.if-is_added.false in
    on_ok_weaker c.add_node.result
    (λ h. subst (λ (d : Draft). AddsColumns limits new (field lay ch bare) (λ j. values) d c.add_node.new.draft) same h)
    (c.add_node.ensures.adds known limits lay ch values (omega arith)
    (c.in_ok-take_column.ensures.taken lay ch (c.in_ok-node.ensures known limits)))

pub returns-clause-refused : goal.returns-clause-refused
returns-clause-refused g c =
    let known = known_indices (g.I.IndexOf.index c.args.indices.now) in
    let limits = c.args.limits.now in
    let lay = (field_shape c.args.field.now).0 in
    let ch = (field_shape c.args.field.now).1 in
    let values = cells c.args.column c.args.batch.now.rows in
    let same = c.in_ok-is_added.ensures.none c.if-is_added.false in
    IfErr-weaker c.add_node.result _ _
    (λ fault h. subst (λ (d : Draft). AreRefusedAfter limits d.len (field lay ch bare) (λ j. values) fault) same h)
    (c.add_node.ensures.refused known limits lay ch values (omega arith)
    (c.in_ok-take_column.ensures.taken lay ch (c.in_ok-node.ensures known limits)))
