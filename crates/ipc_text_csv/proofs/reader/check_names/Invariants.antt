use Rattle.std.proofs.Common.{◌≡◌, ℕ, drop}
use Rattle.csv.specs.Records.{fields_of}
use Rattle.ipc_text_csv.specs.CsvRows.{IsFirstUnlike}
use Rattle.ipc_text_csv.specs.RowCsv.{names}
use Rattle.ipc_text_csv.proofs.reader.check_names.Given as goal

abbrev pub invariant-loop-column : goal.invariant-loop-column
invariant-loop-column l = record {
  named : drop l.column (fields_of l.header) ≡ names (drop l.column l.columns) → fields_of l.header ≡ names l.columns;
  unlike : (column : ℕ) → IsFirstUnlike l.column (drop l.column l.columns) (drop l.column (fields_of l.header)) column
      → IsFirstUnlike 0 l.columns (fields_of l.header) column;
}
