-- What is read from an input of CSV and sent to the sink of its stream.
use Rattle.std.specs.Prelude.{◌≡◌, ◌≢◌, ◌⊎◌, ℕ, List, [], ◌∷◌, ◌++◌, Option, Some, None}
use Rattle.std.specs.Prelude.{IsSome, Result, Ok, Err, ⊤}
use Rattle.csv.specs.Records.{fields_of}
use Rattle.ipc_model.specs.declared.fault.WriteFault.{WriteFault}
use Rattle.ipc_model.specs.declared.fault.WriteFault.TheVariants as write
use Rattle.ipc_model.specs.declared.limits.Limits.{Limits}
use Rattle.ipc_model.specs.declared.schema.Field.{Field}
use Rattle.ipc_model.specs.declared.schema.Schema.{Schema}
use Rattle.ipc_model.specs.declared.table.BatchRows.{BatchRows}
use Rattle.ipc_model.specs.declared.table.Table.{Table}
use Rattle.ipc_model.specs.declared.value.Value.{Value}
use Rattle.ipc_stream_read.specs.declared.end.End.TheVariants.{Closed, Mark}
use Rattle.ipc_stream_read.specs.Stream.{Denotes}
use Rattle.ipc_stream.specs.Dictionaries.{kept_at_start}
use Rattle.ipc_stream.specs.Writing.{AcceptsTable, BreaksOff, RefusesBatch, Sent}
use Rattle.ipc_text_csv.specs.RowCsv.{flat_fault, names}
use Rattle.ipc_text_csv.specs.RowReaders.{RefusesHeaderRecord, RefusesRowRecord}
use Rattle.ipc_text_temporal.specs.declared.fault.TextFault.{TextFault}
use Rattle.ipc_text_temporal.specs.declared.fault.TextFault.TheVariants.{OutOfMemory}
use Rattle.ipc_text_temporal.specs.declared.fault.TextFault.TheVariants.{WrongFieldCount}
use Rattle.job_from_csv.specs.Batches.{AreBatched, AreLimitsFor, batch_of, last_batch}
use Rattle.ipc_text_csv.specs.Records.{AreFirstRecordsOf, AreRecordsOf}
use Rattle.job_from_csv.specs.declared.batch_size.BatchSize.{BatchSize}
use Rattle.job_from_csv.specs.declared.stop.FromCsvStop.{FromCsvStop}
use Rattle.job_from_csv.specs.declared.stop.FromCsvStop.TheVariants as stop
use Rattle.ipc_text_csv.specs.declared.dialect.Dialect.{Dialect}

-- the table of a schema and batches
abbrev pub table_of_batches : Schema → List BatchRows → Table
table_of_batches s batches = record { schema = s; batches = batches }

-- the header and all records of the input were read, and the stream of their table was sent, with
-- its end mark, within the limits for batches of this size. Each batch is full (`IsFull`); a last
-- one has the remaining rows, if there are any
pub record Converts (d : Dialect) (input : Option (List ℕ)) (s : Schema) (size : BatchSize)
    (old new : Option (List ℕ)) (failures_old failures_new : ℕ) : Type 0 where
  pub limits : Limits
  pub within : AreLimitsFor size limits
  pub records : List (List (List ℕ))
  pub all : AreRecordsOf d input (names s.fields ∷ records)
  pub batches : List BatchRows
  pub left : List (List Value)
  pub batched : AreBatched d limits s size records batches left
  pub sent : Sent (λ x. Denotes limits x (table_of_batches s (batches ++ last_batch left)) Mark) old
      new
      failures_old failures_new

-- the rows of these records make a table that is accepted; its schema and the batches that they
-- fill were sent, and nothing else
pub record SendsFull (d : Dialect) (s : Schema) (size : BatchSize) (records : List (List (List ℕ)))
    (old new : Option (List ℕ)) (failures_old failures_new : ℕ) : Type 0 where
  pub limits : Limits
  pub within : AreLimitsFor size limits
  pub batches : List BatchRows
  pub left : List (List Value)
  pub batched : AreBatched d limits s size records batches left
  pub accepts : AcceptsTable limits (table_of_batches s (batches ++ last_batch left))
  pub sent : Sent (λ x. Denotes limits x (table_of_batches s batches) Closed) old new failures_old
      failures_new

-- nothing was sent, and the sink's count of failures is as it was
abbrev pub Unsent : Option (List ℕ) → Option (List ℕ) → ℕ → ℕ → Type 0
Unsent old new failures_old failures_new = (new ≡ old) × (failures_new ≡ failures_old)

-- some first records of the input read as rows, and the batches that these fill were sent
pub record StopsBehind (d : Dialect) (input : Option (List ℕ)) (s : Schema) (size : BatchSize)
    (old new : Option (List ℕ)) (failures_old failures_new : ℕ) : Type 0 where
  pub records : List (List (List ℕ))
  pub there : AreFirstRecordsOf d input (names s.fields ∷ records)
  pub sent : SendsFull d s size records old new failures_old failures_new

-- why no header is read, and nothing is sent: the columns cannot be written as CSV, there is no
-- record, or memory ran out
pub data RefusesHeader (d : Dialect) (input : Option (List ℕ)) (fields : List Field)
    (fault : TextFault) : Type 0 where
  columns : flat_fault fields ≡ Some fault → RefusesHeader d input fields fault
  missing : flat_fault fields ≡ None → AreRecordsOf d input [] → fault ≡ WrongFieldCount 0
      → RefusesHeader d input fields fault
  exhausted : flat_fault fields ≡ None → fault ≡ OutOfMemory → RefusesHeader d input fields fault

-- a record of the input has these texts and is refused. It is the header, record 0, and nothing was
-- sent; or it is the record after these, and the batches that these fill were sent
pub data RefusesRecord (d : Dialect) (input : Option (List ℕ)) (s : Schema) (size : BatchSize)
    (old new : Option (List ℕ)) (failures_old failures_new : ℕ) (texts : List (List ℕ))
    (fault : TextFault) : Type 0 where
  as_header : RefusesHeaderRecord d input s texts fault → Unsent old new failures_old failures_new
      → RefusesRecord d input s size old new failures_old failures_new texts fault
  as_row : (before : List (List (List ℕ)))
      → RefusesRowRecord d input s before texts fault
      → SendsFull d s size before old new failures_old failures_new
      → RefusesRecord d input s size old new failures_old failures_new texts fault

-- no header was read, or memory ran out after some records
pub data RefusesText (d : Dialect) (input : Option (List ℕ)) (s : Schema) (size : BatchSize)
    (old new : Option (List ℕ)) (failures_old failures_new : ℕ) (fault : TextFault) : Type 0 where
  in_header : RefusesHeader d input s.fields fault → Unsent old new failures_old failures_new
      → RefusesText d input s size old new failures_old failures_new fault
  exhausted_behind : fault ≡ OutOfMemory
      → StopsBehind d input s size old new failures_old failures_new
      → RefusesText d input s size old new failures_old failures_new fault

-- the source of the input failed: before the header was read, and nothing was sent, or after some
-- records
pub data StopsReading (d : Dialect) (input : Option (List ℕ)) (s : Schema) (size : BatchSize)
    (old new : Option (List ℕ)) (failures_old failures_new : ℕ) : Type 0 where
  before : flat_fault s.fields ≡ None → Unsent old new failures_old failures_new
      → StopsReading d input s size old new failures_old failures_new
  behind : StopsBehind d input s size old new failures_old failures_new
      → StopsReading d input s size old new failures_old failures_new

-- the rows of these records make a table that is accepted
pub record AreAccepted (d : Dialect) (limits : Limits) (s : Schema) (size : BatchSize)
    (records : List (List (List ℕ))) : Type 0 where
  pub batches : List BatchRows
  pub left : List (List Value)
  pub batched : AreBatched d limits s size records batches left
  pub accepts : AcceptsTable limits (table_of_batches s (batches ++ last_batch left))

-- the faults of rows that fit: a batch or the values of a dictionary are too long or too many (W6
-- to W8)
abbrev pub IsOfLengths : WriteFault → Type 0
IsOfLengths write.TooLong = ⊤
IsOfLengths write.DictionaryFull = ⊤
IsOfLengths write.TooManyRows = ⊤
IsOfLengths fault = ⊥

-- writing the table of some first records stopped. At W9, all records were read, or writing the
-- table of the full batches alone stopped. At W6 to W8 the last of these records is the cause: the
-- table of the records before it is accepted. At W6, if the size has bytes, its row is refused as a
-- batch of its own
pub record StopsWriting (d : Dialect) (input : Option (List ℕ)) (s : Schema) (size : BatchSize)
    (old new : Option (List ℕ)) (failures_old failures_new : ℕ) (fault : WriteFault) : Type 0 where
  pub limits : Limits
  pub within : AreLimitsFor size limits
  pub records : List (List (List ℕ))
  pub there : AreFirstRecordsOf d input (names s.fields ∷ records)
  pub batches : List BatchRows
  pub left : List (List Value)
  pub batched : AreBatched d limits s size records batches left
  pub breaks : BreaksOff limits (table_of_batches s (batches ++ last_batch left)) old new
      failures_old
      failures_new fault
  pub all : fault ≡ write.Write → AreRecordsOf d input (names s.fields ∷ records)
      ⊎ BreaksOff limits (table_of_batches s batches) old new failures_old failures_new fault
  pub first : IsOfLengths fault → (before : List (List (List ℕ))) (texts : List (List ℕ))
      → records ≡ before ++ texts ∷ [] → AreAccepted d limits s size before
  pub alone : IsSome size.bytes → fault ≡ write.TooLong → (before : List (List Value))
      (row : List Value) → batched.rows ≡ before ++ row ∷ []
      → RefusesBatch limits s (batch_of (row ∷ [])) write.TooLong

-- what the writer may still refuse if rows fit and batches are not too large: the schema (W1, W6),
-- a batch that is too long (W6), a failed sink (W9) or memory (W11). If the schema names a
-- dictionary, also too many values of it (W7, W8)
abbrev pub IsLeftToRefuse : Schema → WriteFault → Type 0
IsLeftToRefuse s write.BadSchema = ⊤
IsLeftToRefuse s write.TooLong = ⊤
IsLeftToRefuse s write.DictionaryFull = kept_at_start s ≢ []
IsLeftToRefuse s write.TooManyRows = kept_at_start s ≢ []
IsLeftToRefuse s write.Write = ⊤
IsLeftToRefuse s write.OutOfMemory = ⊤
IsLeftToRefuse s fault = ⊥

-- why the whole stream was not sent, and what was sent
abbrev pub StopsFor : Dialect → Option (List ℕ) → Schema → BatchSize → Option (List ℕ)
    → Option (List ℕ) → ℕ → ℕ → FromCsvStop → Type 0
StopsFor d input s size old new failures_old failures_new stop.Input =
    StopsReading d input s size old new failures_old failures_new
StopsFor d input s size old new failures_old failures_new (stop.Text fault) =
    RefusesText d input s size old new failures_old failures_new fault
StopsFor d input s size old new failures_old failures_new (stop.Record fault refused) =
    RefusesRecord d input s size old new failures_old failures_new (fields_of refused) fault
StopsFor d input s size old new failures_old failures_new (stop.Write fault) =
    StopsWriting d input s size old new failures_old failures_new fault

-- the whole stream was sent, or why it was not
abbrev pub AnswersConversion : Dialect → Option (List ℕ) → Schema → BatchSize → Option (List ℕ)
    → Option (List ℕ) → ℕ → ℕ → Result Unit FromCsvStop → Type 0
AnswersConversion d input s size old new failures_old failures_new (Ok x) =
    Converts d input s size old new failures_old failures_new
AnswersConversion d input s size old new failures_old failures_new (Err why) =
    StopsFor d input s size old new failures_old failures_new why
