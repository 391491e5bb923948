use Rattle.std.proofs.Common.{◌≡◌, ◌∙◌, ap, subst, ℤ, ℕ, List, [], ◌∷◌, ◌+◌, ◌++◌, length, map, w64, to_z, of_z, rules}
use Rattle.std.specs.Prelude.{IfErr}
use Rattle.std.proofs.lemmas.Result.{on_ok_weaker}
use Rattle.ipc_encode.specs.Buffers.{padded_bytes}
use Rattle.ipc_encode.specs.Cells.{slots}
use Rattle.ipc_encode.specs.Numbers.{as_number, new_index}
use Rattle.ipc_encode.specs.Pieces.{Number}
use Rattle.ipc_encode.specs.Segments.{IsBodyRefused}
use Rattle.ipc_encode.proofs.Indexed.{index_data}
use Rattle.ipc_encode.proofs.SegmentColumns.{adds_as}
use Rattle.ipc_encode.proofs.built_columns.add_data.Goals as goal

pub returns-in_ok-push_indices-in-Indices-clause-adds : goal.returns-in_ok-push_indices-in-Indices-clause-adds
returns-in_ok-push_indices-in-Indices-clause-adds g c = λ known values h.
    let held = c.in-Indices.held in
    let number = g.N.Renumber.number c.args.numbers.now in
    let read : to_z w64 (of_z w64 held.id) ≡ held.id = search rules in
    let bytes = λ (id : ℤ). slots (Number held.bits) (map as_number (map (new_index (number id)) c.deref.result.now)) in
    let same = rw c.in-Indices.is at h in
    let is = ap (λ (bs : List ℕ). bs ∷ []) (c.take_bytes-in-Indices.ensures ∙ c.in_ok-push_indices-in-Indices.ensures
    ∙ ap (λ (bs : List ℕ). bs ++ bytes (to_z w64 (of_z w64 held.id))) c.clear.ensures.items ∙ ap bytes read)
    ∙ index_data number known held.bits held.signed held.id values _ (c.deref.ensures.value ∙ same) in
    rw c.in-Indices.is (on_ok_weaker c.add_buffer-in-Indices.result (adds_as _ _ _ _ is) c.add_buffer-in-Indices.ensures.adds)

pub returns-in_ok-push_indices-in-Indices-clause-refused : goal.returns-in_ok-push_indices-in-Indices-clause-refused
returns-in_ok-push_indices-in-Indices-clause-refused g c = λ known values h.
    let held = c.in-Indices.held in
    let number = g.N.Renumber.number c.args.numbers.now in
    let read : to_z w64 (of_z w64 held.id) ≡ held.id = search rules in
    let bytes = λ (id : ℤ). slots (Number held.bits) (map as_number (map (new_index (number id)) c.deref.result.now)) in
    let same = rw c.in-Indices.is at h in
    let is = ap (λ (bs : List ℕ). bs ∷ []) (c.take_bytes-in-Indices.ensures ∙ c.in_ok-push_indices-in-Indices.ensures
    ∙ ap (λ (bs : List ℕ). bs ++ bytes (to_z w64 (of_z w64 held.id))) c.clear.ensures.items ∙ ap bytes read)
    ∙ index_data number known held.bits held.signed held.id values _ (c.deref.ensures.value ∙ same) in
    rw c.in-Indices.is (subst (λ (bs : List (List ℕ)). IfErr c.add_buffer-in-Indices.result (IsBodyRefused c.args.limits.now
    (c.args.draft.now.len + length (padded_bytes bs)))) is c.add_buffer-in-Indices.ensures.refused)
