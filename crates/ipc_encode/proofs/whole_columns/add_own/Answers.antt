use Rattle.std.proofs.Common.{◌≡◌, ◌∙◌, sym, ap, subst, ◌+◌, length, true, [], arith}
use Rattle.std.proofs.lemmas.Result.{err_from_is_err_and}
use Rattle.ipc_model.specs.declared.layout.Layout.{Layout}
use Rattle.ipc_model.specs.declared.layout.Layout.TheVariants as l
use Rattle.ipc_column.specs.Nested.{slot_values}
use Rattle.ipc_encode.specs.Buffers.{column_buffers, column_nulls, data_buffers, padded_bytes, written_values}
use Rattle.ipc_encode.specs.Cells.{nulls}
use Rattle.ipc_encode.specs.Columns.{validity_bytes}
use Rattle.ipc_encode.specs.Limits.{HasExcessData}
use Rattle.ipc_encode.specs.Segments.{AddsBuffers, IsBodyRefused, segment_bytes}
use Rattle.ipc_encode.specs.WholeColumns.{is_taken_whole}
use Rattle.ipc_encode.proofs.WrittenBuffers.{marked_long, validity_is}
use Rattle.ipc_encode.proofs.LentBuffers.{marked_count, slots_stored, whole_marked}
use Rattle.ipc_encode.proofs.ReadbackParts.{nulls_most}
use Rattle.ipc_encode.proofs.SegmentColumns.{adds_both, begun, bitmap_and_data, bitmap_refused, data_refused, leaf_added}
use Rattle.ipc_encode.proofs.Steps.{other_nulls}
use Rattle.ipc_encode.proofs.whole_columns.add_own.Goals as goal
use Rattle.ipc_encode.proofs.whole_columns.add_own.Goals.{After-lent_validity-validity, After-null_count-null_count}

pub returns-in-Null-clause-adds : goal.returns-in-Null-clause-adds
returns-in-Null-clause-adds c = λ known.
    let vs = slot_values c.args.view.now in
    let len = c.in_ok-add_counts.ensures.adds.len in
    leaf_added c.args.limits.now known c.args.layout vs [] c.len-count.result c.len-count.result
    c.args.draft.now c.add_counts.new.draft (sym c.len-count.ensures)
    (ap (λ (x : Layout). column_nulls x vs) c.in-Null.is ∙ sym c.len-count.ensures)
    (ap (λ (x : Layout). column_buffers x (written_values known x vs)) c.in-Null.is)
    c.in_ok-add_counts.ensures.nodes c.in_ok-add_counts.ensures.adds (omega (arith, c.if-count-limits.false))
    (rw c.in-Null.is (λ h. h)) (slots_stored c.args.view.now c.args.layout c.requires.lies.laid c.requires.lies.texts)
    (omega (arith, len, c.requires.within))

-- the layout is not that of nulls
not_null : (layout own : Layout) → own ≡ layout → (layout ≡ l.Null → ⊥) → own ≡ l.Null → ⊥
not_null layout own laid other is = other (sym laid ∙ is)

-- the count is that of the nulls
nulls_are : (c : After-null_count-null_count) → c.null_count-null_count.result ≡ nulls (slot_values c.args.view.now)
nulls_are c =
    marked_count c.args.view.now.column.validity (slot_values c.args.view.now) c.null_count-null_count.result
    (whole_marked c.args.view.now c.requires.lies.canonical.whole
    (not_null c.args.layout _ c.requires.lies.laid c.in_default.not-Null))
    c.null_count-null_count.ensures.with_bitmap c.null_count-null_count.ensures.without_bitmap

-- the bytes are the bitmap that is written
bitmap_is : (c : After-lent_validity-validity)
    → segment_bytes c.lent_validity-validity.result ≡ validity_bytes (slot_values c.args.view.now)
bitmap_is c =
    let other = not_null c.args.layout _ c.requires.lies.laid c.in_default.not-Null in
    let nulls = marked_count c.args.view.now.column.validity (slot_values c.args.view.now) c.null_count-null_count.result
    (whole_marked c.args.view.now c.requires.lies.canonical.whole other)
    c.null_count-null_count.ensures.with_bitmap c.null_count-null_count.ensures.without_bitmap in
    validity_is c.args.view.now c.buffers.result c.buffers.ensures (c.requires.lies.canonical.validity other)
    c.len-count.result c.null_count-null_count.result c.len-count.ensures nulls _
    c.lent_validity-validity.ensures.none c.lent_validity-validity.ensures.some

pub lent_validity-validity-requires : goal.lent_validity-validity-requires
lent_validity-validity-requires c = λ some.
    let long = marked_long c.args.view.now c.buffers.result c.buffers.ensures c.null_count-null_count.result
    c.null_count-null_count.ensures.without_bitmap some in
    omega (arith, long, c.len-count.ensures)

pub add_counts-requires-2-clause-counted : goal.add_counts-requires-2-clause-counted
add_counts-requires-2-clause-counted c =
    let most = nulls_most (slot_values c.args.view.now) in
    let nulls = nulls_are (goal.at.add_counts-requires-2-clause-counted c).After-null_count-null_count in
    omega (arith, most, nulls, c.len-count.ensures)

pub returns-in_err-add_buffer-clause-refused : goal.returns-in_err-add_buffer-clause-refused
returns-in_err-add_buffer-clause-refused c =
    let s = c.args.view.now in
    let p = err_from_is_err_and c.from_residual-in_err-add_buffer.result c.from_residual-in_err-add_buffer.ensures.1 in
    let bitmap = bitmap_is (goal.at.returns-in_err-add_buffer-clause-refused c).After-lent_validity-validity in
    rw (p.1, p.2) (bitmap_refused c.args.limits.now c.args.draft.now c.add_counts-2.new.draft c.args.layout (slot_values s) _
    c.in_err-add_buffer.field-0.0 c.in_default.not-Null bitmap c.in_ok-add_counts-2.ensures.adds c.in_err-add_buffer.ensures.refused)

pub returns-in_err-add_data-clause-refused : goal.returns-in_err-add_data-clause-refused
returns-in_err-add_data-clause-refused c =
    let s = c.args.view.now in
    let p = err_from_is_err_and c.from_residual-in_err-add_data.result c.from_residual-in_err-add_data.ensures.1 in
    let bitmap = bitmap_is (goal.at.returns-in_err-add_data-clause-refused c).After-lent_validity-validity in
    rw (p.1, p.2) (data_refused c.args.limits.now c.args.draft.now c.add_buffer.new.draft c.args.layout (slot_values s)
    c.in_err-add_data.field-0.0 c.in_default.not-Null
    (begun c.args.draft.now c.add_counts-2.new.draft c.add_buffer.new.draft _ (slot_values s) bitmap
    c.in_ok-add_counts-2.ensures.adds c.in_ok-add_buffer.ensures.adds)
    (subst (λ (x : Layout). IsBodyRefused c.args.limits.now
    (c.add_buffer.new.draft.len + length (padded_bytes (data_buffers x (slot_values s)))) c.in_err-add_data.field-0.0)
    c.requires.lies.laid c.in_err-add_data.ensures.refused))

pub returns-clause-adds : goal.returns-clause-adds
returns-clause-adds c = λ known.
    let s = c.args.view.now in
    let vs = slot_values s in
    let d = c.args.draft.now in
    let laid = c.requires.lies.laid in
    let whole = subst (λ (x : Layout). is_taken_whole x ≡ true) laid c.requires.lies.canonical.whole in
    let nulls = nulls_are (goal.at.returns-clause-adds c).After-null_count-null_count in
    let bitmap = bitmap_is (goal.at.returns-clause-adds c).After-lent_validity-validity in
    leaf_added c.args.limits.now known c.args.layout vs _ c.len-count.result c.null_count-null_count.result d c.add_data.new.draft
    (sym c.len-count.ensures) (other_nulls c.args.layout vs c.in_default.not-Null ∙ sym nulls)
    (bitmap_and_data known c.args.layout vs whole c.in_default.not-Null)
    (c.in_ok-add_data.ensures.nodes ∙ (c.in_ok-add_buffer.ensures.nodes ∙ c.in_ok-add_counts-2.ensures.nodes))
    (adds_both d c.add_buffer.new.draft c.add_data.new.draft _ (data_buffers c.args.layout vs)
    (begun d c.add_counts-2.new.draft c.add_buffer.new.draft _ vs bitmap c.in_ok-add_counts-2.ensures.adds
    c.in_ok-add_buffer.ensures.adds)
    (subst (λ (x : Layout). AddsBuffers c.add_buffer.new.draft c.add_data.new.draft (data_buffers x vs)) laid
    c.in_ok-add_data.ensures.adds))
    (omega (arith, c.if-count-limits.false)) (subst (λ (x : Layout). HasExcessData x vs → ⊥) laid c.requires.lies.canonical.short)
    (slots_stored s c.args.layout laid c.requires.lies.texts) c.in_ok-add_data.ensures.within
