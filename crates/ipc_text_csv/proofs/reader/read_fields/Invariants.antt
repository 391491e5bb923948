use Rattle.std.proofs.Common.{◌≡◌, ◌++◌, ℕ, List, drop, take, length, false}
use Rattle.std.specs.List.{list_any}
use Rattle.csv.specs.Records.{fields_of}
use Rattle.ipc_model.specs.declared.value.Value.{Value}
use Rattle.ipc_model.specs.declared.schema.Field.{out-Field}
use Rattle.ipc_text_csv.specs.CsvRows.{EachReadsAs, IsFirstBadColumn}
use Rattle.ipc_text_csv.specs.RowCsv.{is_nested}
use Rattle.ipc_text_csv.proofs.reader.read_fields.Given as goal

abbrev pub invariant-loop-column : goal.invariant-loop-column
invariant-loop-column l = record {
  long : length l.row.items ≡ length l.columns;
  read : (rest : List Value) → EachReadsAs l.dialect (drop l.column l.columns) (drop l.column (fields_of l.fields)) rest
      → EachReadsAs l.dialect l.columns (fields_of l.fields) (take l.column l.row.items ++ rest);
  all : (row : List Value) → EachReadsAs l.dialect l.columns (fields_of l.fields) row
      → (rest : List Value) × (row ≡ take l.column l.row.items ++ rest)
      × EachReadsAs l.dialect (drop l.column l.columns) (drop l.column (fields_of l.fields)) rest;
  flat : list_any (λ f. is_nested (out-Field f).kind) (drop l.column l.columns) ≡ false
      → list_any (λ f. is_nested (out-Field f).kind) l.columns ≡ false;
  behind : list_any (λ f. is_nested (out-Field f).kind) l.columns ≡ false
      → list_any (λ f. is_nested (out-Field f).kind) (drop l.column l.columns) ≡ false;
  bad : (column : ℕ) → IsFirstBadColumn l.dialect l.column (drop l.column l.columns) (drop l.column (fields_of l.fields)) column
      → IsFirstBadColumn l.dialect 0 l.columns (fields_of l.fields) column;
}
