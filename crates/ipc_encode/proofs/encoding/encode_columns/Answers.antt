use Rattle.std.proofs.Common.{sym, subst, ℕ, ◌≤◌, arith}
use Rattle.std.proofs.lemmas.Result.{err_from_is_err_and}
use Rattle.ipc_encode.specs.Numbers.{new_indices, known_indices}
use Rattle.ipc_encode.specs.Segments.{bytes_of_segments}
use Rattle.ipc_encode.proofs.Reading.{rows_of_parts}
use Rattle.ipc_encode.proofs.SegmentColumns.{columns_within, rows_refused_after, segmented}
use Rattle.ipc_encode.proofs.encoding.encode_columns.Goals as goal

pub add_fields-requires : goal.add_fields-requires
add_fields-requires g c = let len = c.new-draft.ensures.len in omega (arith, len)

pub returns-in_err-add_fields-clause-refused : goal.returns-in_err-add_fields-clause-refused
returns-in_err-add_fields-clause-refused g c =
    let p = err_from_is_err_and c.from_residual.result c.from_residual.ensures.1 in
    rw (p.1, p.2) (rows_refused_after c.args.limits.now c.args.fields.now c.args.batch.now.rows c.new-draft.result.len
    c.in_err-add_fields.field-0.0 c.new-draft.ensures.len c.in_err-add_fields.ensures.refused)

pub returns-clause-within : goal.returns-clause-within
returns-clause-within g c =
    columns_within c.args.limits.now _ c.args.fields.now c.args.batch.now.rows c.new-draft.result c.add_fields.new.draft
    c.new-draft.ensures.len (omega (arith, c.rows.ensures, c.if-rows-limits.false)) c.in_ok-add_fields.ensures.adds

pub returns-clause-body : goal.returns-clause-body
returns-clause-body g c =
    subst (λ (n : ℕ). n ≤ c.args.limits.now.body) (sym c.finish.ensures.len) c.in_ok-add_fields.ensures.adds.body

pub returns-clause-segmented : goal.returns-clause-segmented
returns-clause-segmented g c =
    let known = new_indices (g.N.Renumber.number c.args.numbers.now) (known_indices (g.I.IndexOf.index c.args.indices.now)) in
    segmented c.args.limits.now known c.args.fields.now c.args.batch.now.rows c.new-draft.result c.add_fields.new.draft
    c.finish.result c.new-draft.ensures c.in_ok-add_fields.ensures.adds c.finish.ensures

pub returns-clause-rows : goal.returns-clause-rows
returns-clause-rows g c = λ m fine fits finds.
    let known = new_indices (g.N.Renumber.number c.args.numbers.now) (known_indices (g.I.IndexOf.index c.args.indices.now)) in
    let fields = c.args.fields.now in
    let rows = c.args.batch.now.rows in
    let draft = c.add_fields.new.draft in
    let adds = c.in_ok-add_fields.ensures.adds in
    let within = columns_within c.args.limits.now known fields rows c.new-draft.result draft c.new-draft.ensures.len
    (omega (arith, c.rows.ensures, c.if-rows-limits.false)) adds in
    let parts = segmented c.args.limits.now known fields rows c.new-draft.result draft c.finish.result c.new-draft.ensures adds
    c.finish.ensures in
    rows_of_parts m known fields rows c.finish.result.nodes c.finish.result.buffers (bytes_of_segments c.finish.result.segments.items)
    fine fits within adds.stores finds parts.nodes parts.buffers parts.body
