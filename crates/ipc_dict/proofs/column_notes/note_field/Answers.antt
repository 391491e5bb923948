use Rattle.std.proofs.Common.{sym, ap}
use Rattle.ipc_encode.specs.Cells.{cells}
use Rattle.ipc_dict.specs.Noting.{note_all}
use Rattle.ipc_dict.specs.Pairs.{pairs}
use Rattle.ipc_dict.proofs.ColumnNotes.{none_give}
use Rattle.ipc_dict.proofs.column_notes.note_field.Goals as goal

pub returns-then-has_no_dictionary-clause-noted : goal.returns-then-has_no_dictionary-clause-noted
returns-then-has_no_dictionary-clause-noted c =
    ap (note_all c.args.entries.now)
    (sym (none_give (pairs c.args.field.now) (cells c.args.column c.args.batch.now.rows)
    (c.has_no_dictionary.ensures c.if-has_no_dictionary.true)))
