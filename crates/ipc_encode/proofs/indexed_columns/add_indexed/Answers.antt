use Rattle.std.proofs.Common.{◌≡◌, ◌∙◌, sym, ap, subst, ℕ, ℤ, ◌+◌, ◌++◌, List, length, to_z, of_z, w64, inl, arith, rules}
use Rattle.std.proofs.lemmas.Bool.{eqb-true}
use Rattle.std.proofs.lemmas.Result.{err_from_is_err_and}
use Rattle.ipc_model.specs.declared.layout.Layout.TheVariants.{Indices}
use Rattle.ipc_model.specs.declared.value.Value.{Value}
use Rattle.ipc_column.specs.Nested.{slot_values}
use Rattle.ipc_column.specs.Shapes.{Shape, bare, field}
use Rattle.ipc_encode.specs.Buffers.{padded_bytes}
use Rattle.ipc_encode.specs.Cells.{cells, slots}
use Rattle.ipc_encode.specs.Numbers.{known_indices, new_indices, numbers_of}
use Rattle.ipc_encode.specs.Pieces.{Number}
use Rattle.ipc_encode.specs.Segments.{AddsColumns, AreRefusedAfter, IsBodyRefused}
use Rattle.ipc_encode.proofs.Copied.{column_cells}
use Rattle.ipc_encode.proofs.EntryNumbers.{indexed_buffers, leaf_shape}
use Rattle.ipc_encode.proofs.LentBuffers.{marked_count}
use Rattle.ipc_encode.proofs.ReadbackParts.{nulls_most}
use Rattle.ipc_encode.proofs.SegmentColumns.{built_refused, leaf_added}
use Rattle.ipc_encode.proofs.WrittenBuffers.{marked_long, validity_is}
use Rattle.ipc_encode.proofs.indexed_columns.add_indexed.Goals as goal

pub returns-then-count-limits-clause-refused : goal.returns-then-count-limits-clause-refused
returns-then-count-limits-clause-refused g c =
    let same = column_cells c.args.batch.now.rows c.args.column (slot_values c.slots-view.result) c.slots-view.ensures.values in
    let size = ap (λ (vs : List Value). length vs) same in
    inl (inl (omega (arith, size, c.len-count.ensures, c.if-count-limits.true)))

pub lent_validity-validity-requires : goal.lent_validity-validity-requires
lent_validity-validity-requires g c = λ some.
    let long = marked_long c.slots-view.result c.buffers.result c.buffers.ensures c.null_count-null_count.result
    c.null_count-null_count.ensures.without_bitmap some in
    omega (arith, long, c.len-count.ensures)

pub add_buffers-requires-clause-counted : goal.add_buffers-requires-clause-counted
add_buffers-requires-clause-counted g c =
    let s = c.slots-view.result in
    let nulls = marked_count s.column.validity (slot_values s) c.null_count-null_count.result
    (c.in_ok-push_slot_numbers.ensures.marks c.if-not-branch.false)
    c.null_count-null_count.ensures.with_bitmap c.null_count-null_count.ensures.without_bitmap in
    let most = nulls_most (slot_values s) in
    omega (arith, nulls, most, c.len-count.ensures)

pub returns-in_err-add_buffers-clause-refused : goal.returns-in_err-add_buffers-clause-refused
returns-in_err-add_buffers-clause-refused g c =
    let s = c.slots-view.result in
    let vs = slot_values s in
    let limits = c.args.limits.now in
    let len = c.args.draft.now.len in
    let known = new_indices (g.N.Renumber.number c.args.numbers.now) (known_indices (g.I.IndexOf.index c.args.indices.now)) in
    let bits = c.in-Indices.bits in
    let id = to_z w64 (of_z w64 c.in-Indices.id) in
    let read : id ≡ c.in-Indices.id = search rules in
    let lay = Indices bits c.in-Indices.signed id in
    let shape = leaf_shape c.args.field.now lay
    (sym c.layout_of.ensures ∙ (c.in-Indices.is ∙ ap (λ (z : ℤ). Indices bits c.in-Indices.signed z) (sym read)))
    (eqb-true _ _ (sym c.is_empty.ensures ∙ c.if-not-is_empty.false)) in
    let same = column_cells c.args.batch.now.rows c.args.column vs c.slots-view.ensures.values in
    let marks = c.in_ok-push_slot_numbers.ensures.marks c.if-not-branch.false in
    let nulls = marked_count s.column.validity vs c.null_count-null_count.result marks
    c.null_count-null_count.ensures.with_bitmap c.null_count-null_count.ensures.without_bitmap in
    let bitmap = validity_is s c.buffers.result c.buffers.ensures
    (c.has_written_validity.ensures c.if-not-has_written_validity.false marks) c.len-count.result c.null_count-null_count.result
    c.len-count.ensures nulls _ c.lent_validity-validity.ensures.none c.lent_validity-validity.ensures.some in
    let numbers = c.in_ok-push_slot_numbers.ensures.numbers c.if-not-branch.false
    ∙ ap (λ (bs : List ℕ). bs ++ slots (Number bits) (numbers_of (known id) vs)) c.take-values.ensures in
    let is = indexed_buffers known bits c.in-Indices.signed id vs _ _ bitmap numbers in
    let fault = c.in_err-add_buffers.field-0.0 in
    let p = err_from_is_err_and c.from_residual-in_err-add_buffers.result c.from_residual-in_err-add_buffers.ensures.1 in
    rw (p.1, p.2)
    (subst (λ (whole : Shape). AreRefusedAfter limits len whole (λ j. cells c.args.column c.args.batch.now.rows) fault) (sym shape)
    (subst (λ (ws : List Value). AreRefusedAfter limits len (field lay bare bare) (λ j. ws) fault) (sym same)
    (built_refused limits known len lay vs fault
    (subst (λ (bs : List (List ℕ)). IsBodyRefused limits (len + length (padded_bytes bs)) fault) (sym is)
    c.in_err-add_buffers.ensures.refused))))

pub returns-clause-adds : goal.returns-clause-adds
returns-clause-adds g c = λ added.
    let s = c.slots-view.result in
    let vs = slot_values s in
    let limits = c.args.limits.now in
    let d = c.args.draft.now in
    let e = c.add_buffers.new.draft in
    let known = new_indices (g.N.Renumber.number c.args.numbers.now) (known_indices (g.I.IndexOf.index c.args.indices.now)) in
    let bits = c.in-Indices.bits in
    let id = to_z w64 (of_z w64 c.in-Indices.id) in
    let read : id ≡ c.in-Indices.id = search rules in
    let lay = Indices bits c.in-Indices.signed id in
    let shape = leaf_shape c.args.field.now lay
    (sym c.layout_of.ensures ∙ (c.in-Indices.is ∙ ap (λ (z : ℤ). Indices bits c.in-Indices.signed z) (sym read)))
    (eqb-true _ _ (sym c.is_empty.ensures ∙ c.if-not-is_empty.false)) in
    let same = column_cells c.args.batch.now.rows c.args.column vs c.slots-view.ensures.values in
    let marks = c.in_ok-push_slot_numbers.ensures.marks c.if-not-branch.false in
    let nulls = marked_count s.column.validity vs c.null_count-null_count.result marks
    c.null_count-null_count.ensures.with_bitmap c.null_count-null_count.ensures.without_bitmap in
    let bitmap = validity_is s c.buffers.result c.buffers.ensures
    (c.has_written_validity.ensures c.if-not-has_written_validity.false marks) c.len-count.result c.null_count-null_count.result
    c.len-count.ensures nulls _ c.lent_validity-validity.ensures.none c.lent_validity-validity.ensures.some in
    let numbers = c.in_ok-push_slot_numbers.ensures.numbers c.if-not-branch.false
    ∙ ap (λ (bs : List ℕ). bs ++ slots (Number bits) (numbers_of (known id) vs)) c.take-values.ensures in
    let is = indexed_buffers known bits c.in-Indices.signed id vs _ _ bitmap numbers in
    subst (λ (whole : Shape). AddsColumns limits known whole (λ j. cells c.args.column c.args.batch.now.rows) d e) (sym shape)
    (subst (λ (ws : List Value). AddsColumns limits known (field lay bare bare) (λ j. ws) d e) (sym same)
    (leaf_added limits known lay vs _ c.len-count.result c.null_count-null_count.result d e (sym c.len-count.ensures) (sym nulls) is
    c.in_ok-add_buffers.ensures.nodes c.in_ok-add_buffers.ensures.adds (omega (arith, c.if-count-limits.false)) (λ h. h) tt
    c.in_ok-add_buffers.ensures.within))
