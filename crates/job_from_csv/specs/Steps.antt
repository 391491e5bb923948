-- The progress of a conversion.
use Rattle.std.specs.Prelude.{◌≡◌, ℕ, ◌<◌, false, List, [], ◌∷◌, ◌++◌}
use Rattle.std.specs.Prelude.{flat_map, length, Bool, true, Option, Result, Ok, Err}
use Rattle.std.specs.List.{AllByRecursion}
use Rattle.ipc_model.specs.declared.schema.Schema.{Schema}
use Rattle.ipc_model.specs.declared.table.BatchRows.{BatchRows}
use Rattle.ipc_model.specs.declared.value.Value.{Value}
use Rattle.ipc_stream.specs.declared.pending_batch.PendingBatch.{PendingBatch}
use Rattle.ipc_stream.specs.PendingBatches.{HoldsBatch}
use Rattle.ipc_stream.specs.Dictionaries.{SendsTable, kept_after, kept_at_start}
use Rattle.ipc_stream.specs.Writer.{Writer}
use Rattle.ipc_stream.specs.Writing.{AcceptsBatch, AcceptsSchema, Sent}
use Rattle.ipc_text_csv.specs.RowCsv.{names}
use Rattle.job_from_csv.specs.Batches.{AreBatched, AreFull, AreLimitsFor, IsFull, batch_of}
use Rattle.job_from_csv.specs.Batches.{last_batch}
use Rattle.job_from_csv.specs.Conversion.{StopsFor, table_of_batches}
use Rattle.job_from_csv.specs.declared.batch_size.BatchSize.{BatchSize}
use Rattle.job_from_csv.specs.declared.convert.BatchEnd.{BatchEnd}
use Rattle.job_from_csv.specs.declared.convert.BatchEnd.TheVariants.{Last, Rows, TooLong}
use Rattle.job_from_csv.specs.declared.stop.FromCsvStop.{FromCsvStop}
use Rattle.ipc_text_csv.specs.Records.{AreFirstRecordsOf, AreRecordsOf}
use Rattle.ipc_text_csv.specs.RowReaders.{HasRead}
use Rattle.ipc_text_csv.specs.declared.dialect.Dialect.{Dialect}
use Rattle.ipc_text_csv.specs.declared.row_reader.RowReader.{RowReader}

-- the schema and these batches were accepted and sent to a sink, each batch after its dictionaries;
-- the writer has the limits for batches of this size, and can go on
pub record IsOut (size : BatchSize) (s : Schema) (batches : List BatchRows) (old : Option (List ℕ))
    (failures : ℕ) (writer : Writer) : Type 0 where
  pub within : AreLimitsFor size writer.limits
  pub same_schema : writer.schema ≡ s
  pub works : writer.failed ≡ false
  pub sent : Sent (SendsTable writer.limits (table_of_batches s batches)) old writer.written
      failures
      writer.failures
  pub kept : writer.kept ≡ kept_after s.fields (kept_at_start s) batches
  pub accepts_schema : AcceptsSchema writer.limits s
  pub accepts : AllByRecursion (AcceptsBatch writer.limits s) batches

-- the header was read and the schema was sent, and nothing else
abbrev pub BeginsConversion : {R : Type 0} → Dialect → (R → Option (List ℕ)) → Option (List ℕ)
    → Schema
    → BatchSize → Option (List ℕ) → ℕ → RowReader R → Writer → Type 0
BeginsConversion d remaining input s size old failures now writer =
    HasRead d remaining input s [] [] now × IsOut size s [] old failures writer

-- records were read; their rows fill the batches that were sent, and `left` are the rows after
-- these
pub record Came {R : Type 0} (d : Dialect) (remaining : R
    → Option (List ℕ)) (input : Option (List ℕ))
    (s : Schema) (size : BatchSize) (old : Option (List ℕ)) (failures : ℕ) (now : RowReader R)
    (writer : Writer) (left : List (List Value)) : Type 0 where
  pub records : List (List (List ℕ))
  pub rows : List (List Value)
  pub read : HasRead d remaining input s records rows now
  pub batches : List BatchRows
  pub full : AreFull writer.limits s size batches left
  pub joined : flat_map (λ b. b.rows) batches ++ left ≡ rows
  pub out : IsOut size s batches old failures writer

-- the rows after the batches that were sent are stored for the next batch
pub record HoldsLeftover {R : Type 0} (d : Dialect) (remaining : R
    → Option (List ℕ)) (input : Option (List ℕ))
    (s : Schema) (size : BatchSize) (old : Option (List ℕ)) (failures : ℕ) (now : RowReader R)
    (writer : Writer) (held : PendingBatch) (left : List (List Value)) : Type 0 where
  pub came : Came d remaining input s size old failures now writer left
  pub held_rows : HoldsBatch writer.limits writer.schema (batch_of left) held

-- the stored rows are a batch that ends here. They are as many as the size allows; or fewer, but
-- with the row that was read after them they would be too long; or fewer, and all records were read
abbrev pub HoldsLast : {R : Type 0} → Dialect → (R → Option (List ℕ)) → Option (List ℕ) → Schema
    → BatchSize → Option (List ℕ) → ℕ → RowReader R → Writer → PendingBatch → BatchEnd → Type 0
HoldsLast d remaining input s size old failures now writer held Rows = (left : List (List Value))
    × HoldsLeftover d remaining input s size old failures now writer held left
    × (length left ≡ size.rows)
HoldsLast d remaining input s size old failures now writer held TooLong = (left : List (List Value))
    × Came d remaining input s size old failures now writer (left ++ now.row ∷ [])
    × HoldsBatch writer.limits writer.schema (batch_of left) held
    × (0 < length left) × (length left < size.rows)
    × IsFull writer.limits s size left (now.row ∷ [])
HoldsLast {R} d remaining input s size old failures now writer held Last =
    (before : RowReader R) × (left : List (List Value))
    × (holds : HoldsLeftover d remaining input s size old failures before writer held left)
    × (0 < length left) × (length left < size.rows)
    × AreRecordsOf d input (names s.fields ∷ holds.came.records)

-- the rows of a batch are stored as `HoldsLast` states, or why not
abbrev pub PushesRows : {R : Type 0} → Dialect → (R → Option (List ℕ)) → Option (List ℕ)
    → Schema → BatchSize
    → Option (List ℕ) → ℕ → RowReader R → Writer → PendingBatch → Result BatchEnd FromCsvStop
    → Type 0
PushesRows d remaining input s size old failures now writer held (Ok end) =
    HoldsLast d remaining input s size old failures now writer held end
PushesRows d remaining input s size old failures now writer held (Err why) =
    StopsFor d input s size old writer.written failures writer.failures why

-- all records after the header were read, and their rows were sent in batches
pub record SendsAll (d : Dialect) (input : Option (List ℕ)) (s : Schema) (size : BatchSize)
    (old : Option (List ℕ)) (failures : ℕ) (writer : Writer) : Type 0 where
  pub records : List (List (List ℕ))
  pub all : AreRecordsOf d input (names s.fields ∷ records)
  pub there : AreFirstRecordsOf d input (names s.fields ∷ records)
  pub batches : List BatchRows
  pub left : List (List Value)
  pub batched : AreBatched d writer.limits s size records batches left
  pub out : IsOut size s (batches ++ last_batch left) old failures writer

-- all rows before the one that is kept were sent in batches; or no row is kept, and all were sent
abbrev pub GoesOn : {R : Type 0} → Dialect → (R → Option (List ℕ)) → Option (List ℕ) → Schema
    → BatchSize → Option (List ℕ) → ℕ → RowReader R → Writer → Bool → Type 0
GoesOn d remaining input s size old failures now writer true =
    Came d remaining input s size old failures now writer (now.row ∷ [])
GoesOn d remaining input s size old failures now writer false =
    SendsAll d input s size old failures writer

-- the state after a batch was sent, as `GoesOn` states it, or why it was not sent
abbrev pub SendsCsvBatch : {R : Type 0} → Dialect → (R → Option (List ℕ)) → Option (List ℕ)
    → Schema → BatchSize
    → Option (List ℕ) → ℕ → RowReader R → Writer → Result Bool FromCsvStop → Type 0
SendsCsvBatch d remaining input s size old failures now writer (Ok has_row) =
    GoesOn d remaining input s size old failures now writer has_row
SendsCsvBatch d remaining input s size old failures now writer (Err why) =
    StopsFor d input s size old writer.written failures writer.failures why

-- all rows were sent, or why not
abbrev pub SendsRecords : Dialect → Option (List ℕ) → Schema → BatchSize → Option (List ℕ) → ℕ
    → Writer
    → Result Unit FromCsvStop → Type 0
SendsRecords d input s size old failures writer (Ok x) = SendsAll d input s size old failures writer
SendsRecords d input s size old failures writer (Err why) =
    StopsFor d input s size old writer.written failures writer.failures why
