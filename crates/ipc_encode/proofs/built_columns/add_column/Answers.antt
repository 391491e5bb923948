use Rattle.std.proofs.Common.{◌∙◌, sym, ap, subst, List, ℕ, [], ◌∷◌, ◌+◌, ◌++◌, length, pos, arith}
use Rattle.std.proofs.lemmas.Result.{err_from_is_err_and}
use Rattle.ipc_model.specs.Layouts.{has_validity}
use Rattle.ipc_model.specs.declared.layout.Layout.{Layout}
use Rattle.ipc_encode.specs.Buffers.{data_buffers, padded_bytes, written_values}
use Rattle.ipc_encode.specs.Numbers.{new_indices}
use Rattle.ipc_encode.specs.Segments.{AddsBuffers, IsBodyRefused, segment_bytes}
use Rattle.ipc_encode.proofs.SegmentColumns.{adds_as, adds_both, built_added, built_refused, refused_first, refused_later}
use Rattle.ipc_encode.proofs.Indexed.{no_buffers, with_bitmap}
use Rattle.ipc_encode.proofs.built_columns.add_column.Goals as goal

pub returns-then-not-has_validity-clause-adds : goal.returns-then-not-has_validity-clause-adds
returns-then-not-has_validity-clause-adds g c = λ known kept layout values most h.
    let other = new_indices (g.N.Renumber.number c.args.numbers.now) known in
    let none = sym (c.has_validity.ensures ∙ ap has_validity h.laid) ∙ c.if-not-has_validity.true in
    let d = c.args.draft.now in
    let e = c.add_counts.new.draft in
    let len = c.in_ok-add_counts.ensures.adds.len in
    built_added c.args.limits.now kept known other layout values c.args.column.now d e most h
    (c.in_ok-add_counts.ensures.nodes ∙ (λ i. d.nodes.items ++ (pos (h.slots_are i), pos (h.nulls_are i)) ∷ []))
    (adds_as d e [] _ (no_buffers other layout values none) c.in_ok-add_counts.ensures.adds)
    (omega (arith, len, c.requires))

pub returns-in_err-add_buffer-clause-refused : goal.returns-in_err-add_buffer-clause-refused
returns-in_err-add_buffer-clause-refused g c = λ known kept layout values h.
    let limits = c.args.limits.now in
    let other = new_indices (g.N.Renumber.number c.args.numbers.now) known in
    let some = sym (c.has_validity.ensures ∙ ap has_validity h.laid) ∙ c.if-not-has_validity.false in
    let valid = segment_bytes c.take_bytes.result in
    let is = with_bitmap other layout values valid some (c.take_bytes.ensures ∙ h.validity_are) in
    let own = data_buffers layout (written_values other layout values) in
    let d = c.args.draft.now in
    let mid = c.add_counts.new.draft in
    let fault = c.in_err-add_buffer.field-0.0 in
    let p = err_from_is_err_and c.from_residual-in_err-add_buffer.result c.from_residual-in_err-add_buffer.ensures.1 in
    rw (p.1, p.2) (built_refused limits other d.len layout values fault
    (subst (λ (bs : List (List ℕ)). IsBodyRefused limits (d.len + length (padded_bytes bs)) fault) is
    (refused_first limits d.len (valid ∷ []) own fault
    (refused_later limits d mid [] (valid ∷ []) fault c.in_ok-add_counts.ensures.adds c.in_err-add_buffer.ensures.refused))))

pub returns-in_err-add_data-clause-refused : goal.returns-in_err-add_data-clause-refused
returns-in_err-add_data-clause-refused g c = λ known kept layout values h.
    let limits = c.args.limits.now in
    let other = new_indices (g.N.Renumber.number c.args.numbers.now) known in
    let some = sym (c.has_validity.ensures ∙ ap has_validity h.laid) ∙ c.if-not-has_validity.false in
    let valid = segment_bytes c.take_bytes.result in
    let is = with_bitmap other layout values valid some (c.take_bytes.ensures ∙ h.validity_are) in
    let own = data_buffers layout (written_values other layout values) in
    let d = c.args.draft.now in
    let mid = c.add_counts.new.draft in
    let e = c.add_buffer.new.draft in
    let fault = c.in_err-add_data.field-0.0 in
    let p = err_from_is_err_and c.from_residual-in_err-add_data.result c.from_residual-in_err-add_data.ensures.1 in
    let first = adds_both d mid e [] (valid ∷ []) c.in_ok-add_counts.ensures.adds c.in_ok-add_buffer.ensures.adds in
    let report = subst (λ (l : Layout). IsBodyRefused limits (e.len + length (padded_bytes (data_buffers l
    (written_values other l values)))) fault) h.laid (c.in_err-add_data.ensures.refused known values h.holds) in
    rw (p.1, p.2) (built_refused limits other d.len layout values fault
    (subst (λ (bs : List (List ℕ)). IsBodyRefused limits (d.len + length (padded_bytes bs)) fault) is
    (refused_later limits d e (valid ∷ []) own fault first report)))

pub returns-clause-adds : goal.returns-clause-adds
returns-clause-adds g c = λ known kept layout values most h.
    let other = new_indices (g.N.Renumber.number c.args.numbers.now) known in
    let some = sym (c.has_validity.ensures ∙ ap has_validity h.laid) ∙ c.if-not-has_validity.false in
    let valid = segment_bytes c.take_bytes.result in
    let is = with_bitmap other layout values valid some (c.take_bytes.ensures ∙ h.validity_are) in
    let own = data_buffers layout (written_values other layout values) in
    let d = c.args.draft.now in
    let mid = c.add_counts.new.draft in
    let b = c.add_buffer.new.draft in
    let e = c.add_data.new.draft in
    let first = adds_both d mid b [] (valid ∷ []) c.in_ok-add_counts.ensures.adds c.in_ok-add_buffer.ensures.adds in
    let rest = subst (λ (l : Layout). AddsBuffers b e (data_buffers l (written_values other l values))) h.laid
    (c.in_ok-add_data.ensures.adds known values h.holds) in
    built_added c.args.limits.now kept known other layout values c.args.column.now d e most h
    (c.in_ok-add_data.ensures.nodes ∙ (c.in_ok-add_buffer.ensures.nodes ∙ (c.in_ok-add_counts.ensures.nodes
    ∙ (λ i. d.nodes.items ++ (pos (h.slots_are i), pos (h.nulls_are i)) ∷ []))))
    (adds_as d e _ _ is (adds_both d b e (valid ∷ []) own first rest)) c.in_ok-add_data.ensures.within
