use Rattle.std.proofs.Common.{◌≡◌, drop}
use Rattle.ipc_text_csv.specs.RowCsv.{with_fields, all_texts, each_text}
use Rattle.ipc_text_csv.proofs.record.push_values.Given as goal

abbrev pub invariant-loop-column : goal.invariant-loop-column
invariant-loop-column l = with_fields l.dialect.delimiter l.column l.out.items (all_texts l.column (each_text l.dialect (drop l.column
    l.fields) (drop l.column l.row)))
    ≡ with_fields l.dialect.delimiter 0 l.initial.out.items (all_texts 0 (each_text l.dialect l.fields l.row))
