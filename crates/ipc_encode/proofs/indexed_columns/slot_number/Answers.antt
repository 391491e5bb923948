use Rattle.std.proofs.Common.{◌≡◌, ◌∙◌, refl, sym, ap, ℤ, ◌<◌, List, ℕ, [], None, Some, false, length, get_or, w64, arith}
use Rattle.std.proofs.lemmas.Int.{to_z-of_z}
use Rattle.std.proofs.lemmas.List.{get_or_default}
use Rattle.ipc_model.specs.declared.value.Value.{Value}
use Rattle.ipc_model.specs.declared.value.Value.TheVariants.{Null}
use Rattle.ipc_column.proofs.lending.Slots.{bitmap_front}
use Rattle.ipc_column.specs.Nested.{slot_values}
use Rattle.ipc_column.specs.Values.{is_valid}
use Rattle.ipc_encode.specs.Cells.{cell, is_set, number_bits}
use Rattle.ipc_encode.specs.Numbers.{as_number, index_of, known_indices, new_indices}
use Rattle.ipc_encode.specs.Pieces.{Valid}
use Rattle.ipc_encode.proofs.EntryNumbers.{cell_is, entry_is, found_number, found_valid, null_number, null_unset, numbers_set}
use Rattle.ipc_encode.proofs.EntryNumbers.{unmarked_null}
use Rattle.ipc_encode.proofs.LentBuffers.{buffers_bits}
use Rattle.ipc_encode.proofs.indexed_columns.slot_number.Goals as goal

pub is_valid-is_marked-requires : goal.is_valid-is_marked-requires
is_valid-is_marked-requires g c =
    let s = c.args.view.now in
    bitmap_front (length (slot_values s)) c.args.slot _ (buffers_bits s c.buffers.result c.buffers.ensures (length (slot_values s)) refl)
    c.requires.slot

pub returns-then-is_marked-clause-marked : goal.returns-then-is_marked-clause-marked
returns-then-is_marked-clause-marked g c = λ some.
    let slot = c.args.slot in
    let clear : is_valid c.buffers.result.validity.now slot ≡ false = sym c.is_valid-is_marked.ensures ∙ c.if-is_marked.true in
    let null = unmarked_null c.args.view.now c.buffers.result c.buffers.ensures slot c.requires.slot clear in
    ap (is_set Valid) null ∙ (null_unset ∙ (sym clear ∙ ap (λ (bs : List ℕ). is_valid bs slot) c.buffers.ensures.validity))

pub returns-then-is_marked-clause-number : goal.returns-then-is_marked-clause-number
returns-then-is_marked-clause-number g c =
    let f = new_indices (g.N.Renumber.number c.args.numbers.now) (known_indices (g.I.IndexOf.index c.args.indices.now)) c.args.id in
    let slot = c.args.slot in
    let clear : is_valid c.buffers.result.validity.now slot ≡ false = sym c.is_valid-is_marked.ensures ∙ c.if-is_marked.true in
    let null = unmarked_null c.args.view.now c.buffers.result c.buffers.ensures slot c.requires.slot clear in
    null_number f ∙ ap (λ (v : Value). number_bits (as_number (index_of f v))) (sym null)

pub returns-in-Some-index-clause-marked : goal.returns-in-Some-index-clause-marked
returns-in-Some-index-clause-marked g c = λ some.
    let f = new_indices (g.N.Renumber.number c.args.numbers.now) (known_indices (g.I.IndexOf.index c.args.indices.now)) c.args.id in
    let table = c.args.table.now.items in
    let entry = c.in-Some.entry in
    let within = c.in-Some.ensures.within in
    let size = c.requires.noted.size in
    let inside : entry < length table = omega (arith, size, within) in
    let held : get_or table entry None ≡ Some c.in-Some-index.number = get_or_default table entry None c.index.result.now inside
    ∙ (sym c.index.ensures ∙ c.in-Some-index.is) in
    let is = entry_is c.args.view.now c.args.slot entry within c.in-Some.ensures.shows in
    let found = sym (c.requires.noted.each entry c.in-Some-index.number within held) ∙ ap (index_of f) is in
    found_valid f (get_or (slot_values c.args.view.now) c.args.slot Null) (Some c.in-Some-index.number) _ found
    c.in-Some.ensures.entry.valid refl

pub returns-in-Some-index-clause-number : goal.returns-in-Some-index-clause-number
returns-in-Some-index-clause-number g c =
    let f = new_indices (g.N.Renumber.number c.args.numbers.now) (known_indices (g.I.IndexOf.index c.args.indices.now)) c.args.id in
    let table = c.args.table.now.items in
    let entry = c.in-Some.entry in
    let within = c.in-Some.ensures.within in
    let size = c.requires.noted.size in
    let inside : entry < length table = omega (arith, size, within) in
    let held : get_or table entry None ≡ Some c.in-Some-index.number = get_or_default table entry None c.index.result.now inside
    ∙ (sym c.index.ensures ∙ c.in-Some-index.is) in
    let is = entry_is c.args.view.now c.args.slot entry within c.in-Some.ensures.shows in
    let found = sym (c.requires.noted.each entry c.in-Some-index.number within held) ∙ ap (index_of f) is in
    found_number f (get_or (slot_values c.args.view.now) c.args.slot Null) (Some c.in-Some-index.number) found

pub returns-clause-noted : goal.returns-clause-noted
returns-clause-noted g c =
    let number = g.N.Renumber.number c.args.numbers.now in
    let known = known_indices (g.I.IndexOf.index c.args.indices.now) in
    let f = new_indices number known c.args.id in
    let s = c.args.view.now in
    let entry = c.in-Some.entry in
    let within = c.in-Some.ensures.within in
    let rows = c.args.batch.now.rows in
    let read = ap (λ (z : ℤ). index_of (new_indices number known z) (cell c.args.column (get_or rows c.args.slot [])))
    (to_z-of_z w64 c.args.id c.ranges.id) in
    let is = cell_is rows c.args.column (slot_values s) c.args.slot c.requires.slots c.requires.slot in
    numbers_set f s.column.dictionary c.args.table.now.items entry c.in_ok-number.number c.requires.noted within
    (c.in_ok-number.ensures ∙ (read ∙ ap (index_of f) (is ∙ sym (entry_is s c.args.slot entry within c.in-Some.ensures.shows))))

pub returns-clause-marked : goal.returns-clause-marked
returns-clause-marked g c =
    let number = g.N.Renumber.number c.args.numbers.now in
    let known = known_indices (g.I.IndexOf.index c.args.indices.now) in
    let f = new_indices number known c.args.id in
    let vs = slot_values c.args.view.now in
    let rows = c.args.batch.now.rows in
    let read = ap (λ (z : ℤ). index_of (new_indices number known z) (cell c.args.column (get_or rows c.args.slot [])))
    (to_z-of_z w64 c.args.id c.ranges.id) in
    let is = cell_is rows c.args.column vs c.args.slot c.requires.slots c.requires.slot in
    found_valid f (get_or vs c.args.slot Null) c.in_ok-number.number _ (c.in_ok-number.ensures ∙ (read ∙ ap (index_of f) is))
    c.in-Some.ensures.entry.valid

pub returns-clause-number : goal.returns-clause-number
returns-clause-number g c =
    let number = g.N.Renumber.number c.args.numbers.now in
    let known = known_indices (g.I.IndexOf.index c.args.indices.now) in
    let f = new_indices number known c.args.id in
    let vs = slot_values c.args.view.now in
    let rows = c.args.batch.now.rows in
    let read = ap (λ (z : ℤ). index_of (new_indices number known z) (cell c.args.column (get_or rows c.args.slot [])))
    (to_z-of_z w64 c.args.id c.ranges.id) in
    let is = cell_is rows c.args.column vs c.args.slot c.requires.slots c.requires.slot in
    found_number f (get_or vs c.args.slot Null) c.in_ok-number.number (c.in_ok-number.ensures ∙ (read ∙ ap (index_of f) is))
