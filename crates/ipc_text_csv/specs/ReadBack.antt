-- What is written of rows is read as these rows.
use Rattle.std.specs.Prelude.{◌≡◌, ℕ, List, [], ◌∷◌, ◌++◌, Some, Ok}
use Rattle.std.specs.List.{AllByRecursion}
use Rattle.ipc_model.specs.declared.schema.Field.{Field}
use Rattle.ipc_model.specs.declared.value.Value.{Value}
use Rattle.ipc_text_csv.specs.CsvRows.{EachTyped}
use Rattle.ipc_text_csv.specs.Records.{AreRecordsOf, EachRecordReadsAs}
use Rattle.ipc_text_csv.specs.RowCsv.{header_text, names, row_csv}
use Rattle.ipc_text_csv.specs.declared.dialect.Dialect.{Dialect}

-- the text is the records of these rows, one after the other; each row has one
abbrev pub AreWritten : Dialect → List Field → List (List Value) → List ℕ → Type 0
AreWritten d fields [] text = text ≡ []
AreWritten d fields (row ∷ rows) text =
    (line more : List ℕ) × (row_csv d fields row ≡ Ok line) × (text ≡ line ++ more)
    × AreWritten d fields rows more

-- a header and the records of rows, whose values are null or of the columns' types, are an input
-- with exactly one record for the names and one for each row, which reads as this row
abbrev pub TextComesBack : Type 0
TextComesBack = (d : Dialect) (fields : List Field) (rows : List (List Value))
    (header text : List ℕ) → header_text d fields ≡ Ok header
    → AllByRecursion (EachTyped fields) rows → AreWritten d fields rows text
    → (records : List (List (List ℕ))) × AreRecordsOf d (Some (header ++ text))
    (names fields ∷ records) × EachRecordReadsAs d fields records rows
