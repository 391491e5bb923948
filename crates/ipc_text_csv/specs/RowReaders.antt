-- What is read of the records of an input: the header and rows.
use Rattle.std.specs.Prelude.{◌≡◌, ◌⊎◌, ℕ, ◌+◌, Bool, true, false, ⊤, List, [], ◌∷◌, ◌++◌, length}
use Rattle.std.specs.Prelude.{Option, None, Result, Ok, Err}
use Rattle.csv.specs.Records.{fields_of}
use Rattle.ipc_model.specs.declared.schema.Schema.{Schema}
use Rattle.ipc_model.specs.declared.value.Value.{Value}
use Rattle.ipc_text_csv.specs.CsvRows.{IsHeaderFault, IsRecordFault}
use Rattle.ipc_text_csv.specs.Records.{AreFirstRecordsOf, AreRecordsOf, EachRecordReadsAs}
use Rattle.ipc_text_csv.specs.Records.{HasReadRecords, RefusesForm}
use Rattle.ipc_text_csv.specs.RowCsv.{flat_fault, names}
use Rattle.ipc_text_csv.specs.declared.dialect.Dialect.{Dialect}
use Rattle.ipc_text_csv.specs.declared.record_fault.RecordFault.{RecordFault}
use Rattle.ipc_text_csv.specs.declared.record_fault.RecordFault.TheVariants as none
use Rattle.ipc_text_csv.specs.declared.row_reader.RowReader.{RowReader}
use Rattle.ipc_text_temporal.specs.declared.fault.TextFault.{TextFault}
use Rattle.ipc_text_temporal.specs.declared.fault.TextFault.TheVariants.{OutOfMemory}

-- the header and then these records were read and counted, and these read as these rows
pub record HasRead {R : Type 0} (d : Dialect) (remaining : R
    → Option (List ℕ)) (input : Option (List ℕ))
    (s : Schema) (records : List (List (List ℕ))) (rows : List (List Value))
    (now : RowReader R) : Type 0 where
  pub flat : flat_fault s.fields ≡ None
  pub stands : HasReadRecords d remaining input (names s.fields ∷ records) now.reader
  pub counted : now.count ≡ length records
  pub read : EachRecordReadsAs d s.fields records rows

-- why the first record, with these texts, is not read as the header: it is another, or not in the
-- form of a strict dialect
abbrev pub RefusesHeaderRecord : Dialect → Option (List ℕ) → Schema → List (List ℕ) → TextFault
    → Type 0
RefusesHeaderRecord d input s texts fault =
    (AreFirstRecordsOf d input (texts ∷ []) × IsHeaderFault s.fields texts fault)
    ⊎ RefusesForm d input [] 0 fault

-- why the record after these, with these texts, is not read as a row: it does not read as one, or
-- is not in the form of a strict dialect
abbrev pub RefusesRowRecord : Dialect → Option (List ℕ) → Schema → List (List (List ℕ))
    → List (List ℕ) → TextFault → Type 0
RefusesRowRecord d input s records texts fault =
    (AreFirstRecordsOf d input (names s.fields ∷ records ++ texts ∷ [])
    × IsRecordFault d (length records + 1) s.fields texts fault)
    ⊎ RefusesForm d input (names s.fields ∷ records) (length records + 1) fault

-- the first record is the header; or there is none; or why no header is read: the device failed,
-- memory ran out, or the first record, which the reader keeps, is another
abbrev pub FindsHeader : {R : Type 0} → Dialect → (R → Option (List ℕ)) → Option (List ℕ) → Schema
    → RowReader R → Result Bool RecordFault → Type 0
FindsHeader d remaining input s now (Ok true) = HasRead d remaining input s [] [] now
FindsHeader d remaining input s now (Ok false) = AreRecordsOf d input []
FindsHeader d remaining input s now (Err none.Input) = ⊤
FindsHeader d remaining input s now (Err (none.Text OutOfMemory)) = ⊤
FindsHeader d remaining input s now (Err (none.Text fault)) =
    RefusesHeaderRecord d input s (fields_of now.fields) fault

-- after these records there was one more, whose row is stored in the reader; or these are all
abbrev pub FindsRow : {R : Type 0} → Dialect → (R → Option (List ℕ)) → Option (List ℕ) → Schema
    → List (List (List ℕ)) → List (List Value) → RowReader R → Bool → Type 0
FindsRow d remaining input s records rows now true = (texts : List (List ℕ))
    × HasRead d remaining input s (records ++ texts ∷ []) (rows ++ now.row ∷ []) now
FindsRow d remaining input s records rows now false =
    AreRecordsOf d input (names s.fields ∷ records)

-- why no row is read after these records: the device failed, memory ran out, or the next record,
-- with these texts, does not read as a row
abbrev pub FindsNoRow : Dialect → Option (List ℕ) → Schema → List (List (List ℕ))
    → List (List ℕ) → RecordFault → Type 0
FindsNoRow d input s records texts none.Input = ⊤
FindsNoRow d input s records texts (none.Text OutOfMemory) = ⊤
FindsNoRow d input s records texts (none.Text fault) =
    RefusesRowRecord d input s records texts fault

-- the device's count of failures after the next record was read, or why it was not: it failed
-- exactly if the reason is `Input`
abbrev pub CountsNextFailure : {T : Type 0} → ℕ → Result T RecordFault → Type 0
CountsNextFailure failures (Ok x) = failures ≡ 0
CountsNextFailure failures (Err none.Input) = failures ≡ 1
CountsNextFailure failures (Err (none.Text fault)) = failures ≡ 0
