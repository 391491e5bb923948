use Rattle.std.proofs.Common.{◌≡◌, ◌++◌, drop}
use Rattle.csv.specs.Writing.{fields_text}
use Rattle.ipc_text_csv.specs.Dialects.{writer}
use Rattle.ipc_text_csv.specs.RowCsv.{names}
use Rattle.ipc_text_csv.proofs.record.push_more_names.Given as goal

abbrev pub invariant-loop-field : goal.invariant-loop-field
invariant-loop-field l = l.out.items ++ fields_text (writer l.dialect.delimiter) (names (drop l.field-index l.fields))
    ≡ l.initial.out.items ++ fields_text (writer l.dialect.delimiter) (names l.fields)
