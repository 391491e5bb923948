use Rattle.std.proofs.Common.{◌≡◌, ◌∙◌, sym, ap, Bool, true, Some}
use Rattle.std.specs.Prelude.{slice_get}
use Rattle.std.proofs.lemmas.Option.{slice_get_read}
use Rattle.ipc_dict.specs.Pairs.{pairs}
use Rattle.ipc_dict.proofs.ColumnNotes.{all_known_same, noted_kept, noted_next}
use Rattle.ipc_dict.proofs.Notes.{on_ok}
use Rattle.ipc_dict.proofs.column_notes.note_entry.Goals as goal

pub returns-then-entry-len-clause-kept : goal.returns-then-entry-len-clause-kept
returns-then-entry-len-clause-kept c = λ d value kept at got.
    on_ok c.note_cell.result (c.note_cell.ensures.noted value got)
    (λ now. noted_kept c.args.entries.now c.note_cell.new.entries c.args.field.now d c.args.noted.now.items
    (pairs c.args.field.now value) now kept)

pub returns-then-index-clause-noted : goal.returns-then-index-clause-noted
returns-then-index-clause-noted c = λ d value kept at got.
    sym (all_known_same c.args.entries.now (pairs c.args.field.now value) (kept c.args.entry value marked at))
  where
    marked : slice_get c.args.noted.now.items c.args.entry ≡ Some true
    marked = slice_get_read c.args.noted.now.items c.len.result c.args.entry c.index.result.now (c.len.ensures ∙ c.args.noted.now.ok.0)
        c.if-entry-len.false c.index.ensures ∙ ap (λ (b : Bool). Some b) c.if-index.true

pub returns-clause-kept : goal.returns-clause-kept
returns-clause-kept c = λ d value kept at got.
    noted_next c.args.entries.now c.note_cell-2.new.entries c.args.field.now d c.args.noted.now.items c.args.entry value
    (c.in_ok-note_cell.ensures.noted value got) at kept

pub returns-then-entry-len-clause-full : goal.returns-then-entry-len-clause-full
returns-then-entry-len-clause-full c = λ d value at got. c.note_cell.ensures.full value got
