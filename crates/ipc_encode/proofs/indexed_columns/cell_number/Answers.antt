use Rattle.std.proofs.Common.{◌≡◌, ◌∙◌, sym, ap, ℕ, ℤ, [], Some, get_or, to_z, of_z, w64}
use Rattle.std.proofs.lemmas.Int.{to_z-of_z}
use Rattle.std.proofs.lemmas.Option.{get_or_from_slice_get}
use Rattle.ipc_model.specs.declared.value.Value.TheVariants.{Null}
use Rattle.ipc_encode.specs.Cells.{cell}
use Rattle.ipc_encode.specs.Numbers.{index_of, known_indices, new_index, new_indices}
use Rattle.ipc_encode.proofs.Indexed.{changed_is}
use Rattle.ipc_encode.proofs.indexed_columns.cell_number.Goals as goal
use Rattle.ipc_encode.proofs.indexed_columns.cell_number.Goals.{in-Some, in-None}

pub returns : goal.returns
returns g c =
    let number = g.N.Renumber.number c.args.numbers.now in
    let known = known_indices (g.I.IndexOf.index c.args.indices.now) in
    let id = to_z w64 (of_z w64 c.args.id) in
    let value = cell c.args.column (get_or c.args.batch.now.rows c.args.row []) in
    let is : c.in_ok-value.value ≡ value = sym (get_or_from_slice_get (get_or c.args.batch.now.rows c.args.row []) c.args.column _ Null
    c.in_ok-value.ensures) in
    let held : c.known_index.result ≡ index_of (known id) value = c.known_index.ensures ∙ ap (index_of (known id)) is in
    let changed = ap (new_index (number id)) held ∙ (changed_is number known id value
    ∙ ap (λ (z : ℤ). index_of (new_indices number known z) value) (to_z-of_z w64 c.args.id c.ranges.id)) in
    elim c.match-known_index.branch as (λ _. c.match-known_index.result ≡ index_of (new_indices number known c.args.id) value) [
      | in-Some w ↦ w.result-is ∙ (ap (λ (n : ℕ). Some n) w.to.ensures ∙ (ap (new_index (number id)) (sym w.in-Some.is) ∙ changed))
      | in-None w ↦ w.result-is ∙ (ap (new_index (number id)) (sym w.in-None.is) ∙ changed)
    ]
