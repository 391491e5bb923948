use Rattle.std.proofs.Common.{◌∙◌, ◌<◌, length, get_or, arith}
use Rattle.std.proofs.lemmas.Option.{slice_get-get_or}
use Rattle.ipc_model.specs.declared.value.Value.TheVariants.{Null}
use Rattle.ipc_column.specs.Nested.{slot_values}
use Rattle.ipc_dict.specs.Pairs.{pairs}
use Rattle.ipc_dict.proofs.ColumnNotes.{noted_kept}
use Rattle.ipc_dict.proofs.Notes.{on_ok}
use Rattle.ipc_dict.proofs.column_notes.note_slot.Goals as goal

pub returns-in-None-clause-kept : goal.returns-in-None-clause-kept
returns-in-None-clause-kept c = λ kept.
    let vs = slot_values c.args.slots.now in
    let size = c.requires.slots.size in
    let inside : c.args.slot < length c.args.batch.now.rows = omega (arith, size, c.requires.slot) in
    let value = get_or vs c.args.slot Null in
    let got = c.requires.slots.each c.args.slot inside ∙ slice_get-get_or vs c.args.slot Null c.requires.slot in
    on_ok c.note_cell.result (c.note_cell.ensures.noted value got)
    (λ now. noted_kept c.args.entries.now c.note_cell.new.entries c.args.field.now c.args.slots.now.column.dictionary c.args.noted.now.items
    (pairs c.args.field.now value) now kept)

pub returns-in-Some-clause-kept : goal.returns-in-Some-clause-kept
returns-in-Some-clause-kept c = λ kept.
    let vs = slot_values c.args.slots.now in
    let size = c.requires.slots.size in
    let inside : c.args.slot < length c.args.batch.now.rows = omega (arith, size, c.requires.slot) in
    let value = get_or vs c.args.slot Null in
    let shown = slice_get-get_or vs c.args.slot Null c.requires.slot in
    c.note_entry.ensures.kept c.args.slots.now.column.dictionary value kept (c.in-Some.ensures.shows ∙ shown)
    (c.requires.slots.each c.args.slot inside ∙ shown)

pub returns-in-None-clause-full : goal.returns-in-None-clause-full
returns-in-None-clause-full c = λ value shown.
    let size = c.requires.slots.size in
    let inside : c.args.slot < length c.args.batch.now.rows = omega (arith, size, c.requires.slot) in
    c.note_cell.ensures.full value (c.requires.slots.each c.args.slot inside ∙ shown)

pub returns-in-Some-clause-full : goal.returns-in-Some-clause-full
returns-in-Some-clause-full c = λ value shown.
    let size = c.requires.slots.size in
    let inside : c.args.slot < length c.args.batch.now.rows = omega (arith, size, c.requires.slot) in
    c.note_entry.ensures.full c.args.slots.now.column.dictionary value (c.in-Some.ensures.shows ∙ shown)
    (c.requires.slots.each c.args.slot inside ∙ shown)
