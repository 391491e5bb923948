use Rattle.std.proofs.Common.{subst, add-one, arith}
use Rattle.std.proofs.lemmas.Result.{err_from_is_err_and}
use Rattle.ipc_column.specs.Shapes.{Shape, child_shape, field_layout, shape_of}
use Rattle.ipc_encode.specs.Buffers.{row_columns}
use Rattle.ipc_encode.specs.Numbers.{new_indices, known_indices}
use Rattle.ipc_encode.specs.Segments.{AddsColumns}
use Rattle.ipc_encode.proofs.SegmentColumns.{all_fields, columns_next, columns_none, columns_refused, shape_at}
use Rattle.ipc_encode.proofs.encoding.add_fields.Goals as goal

pub loop-i-init : goal.loop-i-init
loop-i-init g c = columns_none c.args.limits.now _ (row_columns c.args.batch.now.rows) c.args.draft.now c.requires

pub add_field-requires : goal.add_field-requires
add_field-requires g c = c.loop-i.invariant.body

pub loop-i-preserved : goal.loop-i-preserved
loop-i-preserved g c =
    let of = c.field_at-field.result.now in
    rw add-one (columns_next c.args.limits.now _ c.loop-i.i (shape_of c.args.fields.now) (row_columns c.args.batch.now.rows)
    (field_layout of) (child_shape of) c.args.draft.now c.loop-i.draft c.add_field.new.draft
    (shape_at c.args.fields.now c.loop-i.i of c.field_at-field.ensures) c.loop-i.invariant c.in_ok-add_field.ensures.adds)

pub returns-in_err-add_field-clause-refused : goal.returns-in_err-add_field-clause-refused
returns-in_err-add_field-clause-refused g c =
    let of = c.field_at-field.result.now in
    let p = err_from_is_err_and c.from_residual.result c.from_residual.ensures.1 in
    rw (p.1, p.2) (columns_refused c.args.limits.now _ c.loop-i.i (shape_of c.args.fields.now) (row_columns c.args.batch.now.rows)
    (field_layout of) (child_shape of) c.args.draft.now c.loop-i.draft c.in_err-add_field.field-0.0
    (shape_at c.args.fields.now c.loop-i.i of c.field_at-field.ensures) c.loop-i.invariant c.in_err-add_field.ensures.refused)

pub returns-clause-adds : goal.returns-clause-adds
returns-clause-adds g c =
    let known = new_indices (g.N.Renumber.number c.args.numbers.now) (known_indices (g.I.IndexOf.index c.args.indices.now)) in
    let all = all_fields c.args.fields.now c.loop-i.i (omega (arith, c.loop-i-test.false, c.loop-i.auto.i-end)) in
    subst (λ (s : Shape). AddsColumns c.args.limits.now known s (row_columns c.args.batch.now.rows) c.args.draft.now c.loop-i.draft) all
    c.loop-i.invariant
