-- The records of an input of CSV (RFC 4180) in a dialect, as the crate `csv` reads them.
use Rattle.std.specs.Prelude.{◌≡◌, ℕ, Bool, true, false, IsTrue, ⊤, List, [], ◌∷◌, ◌++◌, Option}
use Rattle.std.specs.Prelude.{Some, None, if◌then◌else◌}
use Rattle.csv.specs.Reading.{AreRecords, Ready, Reached, is_flexible, reader_source}
use Rattle.csv.specs.Reading.{reader_config, reader_state, reader_trim, source_of, strip_bom}
use Rattle.csv.specs.declared.parser.Config.{Config}
use Rattle.csv.specs.declared.parser.State.{State}
use Rattle.csv.specs.declared.parser.State.TheVariants as state
use Rattle.csv.specs.declared.reader.Reader.{Reader}
use Rattle.csv.specs.declared.reader.Trim.TheVariants as trim
use Rattle.ipc_model.specs.declared.schema.Field.{Field}
use Rattle.ipc_model.specs.declared.value.Value.{Value}
use Rattle.ipc_text_csv.specs.CsvRows.{RecordReadsAs}
use Rattle.ipc_text_csv.specs.StrictForm.{BreaksForm, IsStrictFrom}
use Rattle.ipc_text_csv.specs.StrictReaders.{left_of, setting, state_of}
use Rattle.ipc_text_csv.specs.declared.dialect.Dialect.{Dialect}
use Rattle.ipc_text_csv.specs.declared.record_fault.RecordFault.{RecordFault}
use Rattle.ipc_text_csv.specs.declared.record_fault.RecordFault.TheVariants as none
use Rattle.ipc_text_csv.specs.declared.record_reader.RecordReader.{RecordReader}
use Rattle.ipc_text_csv.specs.declared.record_reader.RecordReader.TheVariants.{Csv, Strict}
use Rattle.ipc_text_temporal.specs.declared.fault.TextFault.{TextFault}
use Rattle.ipc_text_temporal.specs.declared.fault.TextFault.TheVariants.{OutOfMemory}

-- the crate `csv` reads by default, but with this dialect's delimiter
abbrev pub reading : Dialect → Config
reading d = setting d.delimiter

-- the bytes of an input that are read as records: in a strict dialect all of them, and else those
-- after a byte order mark
abbrev pub text_of : Dialect → List ℕ → List ℕ
text_of d bytes = if d.strict then bytes else strip_bom bytes

-- these are all the records of an input, which in a strict dialect is in strict form; nothing is
-- stated if its bytes are unknown
abbrev pub AreRecordsOf : Dialect → Option (List ℕ) → List (List (List ℕ)) → Type 0
AreRecordsOf d None records = ⊤
AreRecordsOf d (Some bytes) records =
    AreRecords (reading d) state.StartRecord (text_of d bytes) records
    × (IsTrue d.strict → IsStrictFrom (reading d) state.StartRecord bytes)

-- an input begins with these records, after which a reader has this state and these bytes left; in
-- a strict dialect it is in strict form if these bytes are. Nothing is stated if its bytes are
-- unknown
abbrev pub LeavesReader : Dialect → Option (List ℕ) → List (List (List ℕ)) → State → Option (List ℕ)
    → Type 0
LeavesReader d None records at left = ⊤
LeavesReader d (Some bytes) records at None = ⊥
LeavesReader d (Some bytes) records at (Some left) =
    Reached (reading d) state.StartRecord (text_of d bytes) records at left
    × (IsTrue d.strict → IsStrictFrom (reading d) at left
    → IsStrictFrom (reading d) state.StartRecord bytes)

-- these are the first records of an input; nothing is stated if its bytes are unknown
abbrev pub AreFirstRecordsOf : Dialect → Option (List ℕ) → List (List (List ℕ)) → Type 0
AreFirstRecordsOf d input records =
    (at : State) × (left : Option (List ℕ)) × LeavesReader d input records at left

-- each record reads as the row at the same index
abbrev pub EachRecordReadsAs : Dialect → List Field → List (List (List ℕ)) → List (List Value)
    → Type 0
EachRecordReadsAs d fields [] [] = ⊤
EachRecordReadsAs d fields (texts ∷ records) (row ∷ rows) =
    RecordReadsAs d fields texts row × EachRecordReadsAs d fields records rows
EachRecordReadsAs d fields records rows = ⊥

-- a reader of the crate `csv` reads records in this dialect with the crate's defaults, with two
-- exceptions: the first record is read like any other, and a record may have any number of fields
pub record IsCsvSetUp {R : Type 0} (d : Dialect) (reader : Reader R) : Type 0 where
  pub config : reader_config reader ≡ reading d
  pub trim : reader_trim reader ≡ trim.None
  pub flexible : is_flexible reader ≡ true
  pub ready : Ready reader
  pub lenient : d.strict ≡ false

-- a reader reads the records of this dialect
abbrev pub IsSetUp : {R : Type 0} → Dialect → RecordReader R → Type 0
IsSetUp d (Csv reader) = IsCsvSetUp d reader
IsSetUp d (Strict reader) = (reader.delimiter ≡ d.delimiter) × (d.strict ≡ true)

-- the input of a reader
abbrev pub input_of : {R : Type 0} → RecordReader R → R
input_of (Csv reader) = reader_source reader
input_of (Strict reader) = reader.bytes.input

-- the state of a reader
abbrev pub state_in : {R : Type 0} → RecordReader R → State
state_in (Csv reader) = reader_state reader
state_in (Strict reader) = state_of reader.place

-- the bytes that a reader has left
abbrev pub left_in : {R : Type 0} → (R → Option (List ℕ)) → RecordReader R → Option (List ℕ)
left_in remaining (Csv reader) = source_of remaining reader
left_in remaining (Strict reader) = left_of remaining reader.bytes

-- a reader of this input has read exactly these first records
abbrev pub HasReadRecords : {R : Type 0} → Dialect → (R → Option (List ℕ)) → Option (List ℕ)
    → List (List (List ℕ))
    → RecordReader R → Type 0
HasReadRecords d remaining input records reader =
    LeavesReader d input records (state_in reader) (left_in remaining reader)

-- the result of the next read: there was a record with these fields, and then this state and these
-- bytes are left; or these are all records
abbrev pub FindsNext : Dialect → Option (List ℕ) → List (List (List ℕ)) → State → Option (List ℕ)
    → Bool → List (List ℕ) → Type 0
FindsNext d input records at left true fields =
    LeavesReader d input (records ++ fields ∷ []) at left
FindsNext d input records at left false fields = AreRecordsOf d input records

-- the same of a reader
abbrev pub FindsRecord : {R : Type 0} → Dialect → (R → Option (List ℕ)) → Option (List ℕ)
    → List (List (List ℕ))
    → RecordReader R → Bool → List (List ℕ) → Type 0
FindsRecord d remaining input records reader found fields =
    FindsNext d input records (state_in reader) (left_in remaining reader) found fields

-- an input has these first records, and the next one, which has this number, is not in strict form
abbrev pub BreaksAfter : Dialect → Option (List ℕ) → List (List (List ℕ)) → ℕ → TextFault → Type 0
BreaksAfter d None records number fault = ⊤
BreaksAfter d (Some bytes) records number fault = (at : State) × (left : List ℕ)
    × Reached (reading d) state.StartRecord bytes records at left
    × BreaksForm (reading d) at left number fault

-- the dialect is strict, and the record with this number after these is not in strict form
abbrev pub RefusesForm : Dialect → Option (List ℕ) → List (List (List ℕ)) → ℕ → TextFault → Type 0
RefusesForm d input records number fault =
    IsTrue d.strict × BreaksAfter d input records number fault

-- why no record is read after these: the device failed, memory ran out, or the next record is not
-- in the form of a strict dialect
abbrev pub StopsRecords : Dialect → Option (List ℕ) → List (List (List ℕ)) → ℕ → RecordFault
    → Type 0
StopsRecords d input records number none.Input = ⊤
StopsRecords d input records number (none.Text OutOfMemory) = ⊤
StopsRecords d input records number (none.Text fault) = RefusesForm d input records number fault
