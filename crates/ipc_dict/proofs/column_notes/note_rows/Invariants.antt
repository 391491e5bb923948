use Rattle.std.proofs.Common.{◌≡◌, drop}
use Rattle.ipc_dict.specs.Noting.{note_all, AllFit, AllGrow}
use Rattle.ipc_dict.specs.Pairs.{rows_pairs}
use Rattle.ipc_dict.proofs.column_notes.note_rows.Given as goal

-- what is left are the values of the rows behind
abbrev pub invariant-loop-number : goal.invariant-loop-number
invariant-loop-number l = record {
  noted : note_all l.entries (rows_pairs l.fields (drop l.number l.batch.rows))
      ≡ note_all l.initial.entries (rows_pairs l.fields l.batch.rows);
  fits : AllFit l.initial.entries → AllFit l.entries;
  grows : AllGrow l.initial.entries l.entries;
}
