use Rattle.std.proofs.Common.{◌≡◌}
use Rattle.ipc_dict.specs.Noting.{note_all, AllFit, AllGrow}
use Rattle.ipc_dict.proofs.ColumnNotes.{pairs_from}
use Rattle.ipc_dict.proofs.column_notes.note_columns.Given as goal

-- what is left are the values of the columns behind
abbrev pub invariant-loop-column : goal.invariant-loop-column
invariant-loop-column l = record {
  noted : note_all l.entries (pairs_from l.fields l.column l.batch.rows) ≡ note_all l.initial.entries (pairs_from l.fields 0 l.batch.rows);
  fits : AllFit l.initial.entries → AllFit l.entries;
  grows : AllGrow l.initial.entries l.entries;
}
