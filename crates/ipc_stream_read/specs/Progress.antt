-- How far a job has come, batch by batch.
use Rattle.std.specs.Prelude.{◌≡◌, ◌⊎◌, ◌+◌, ℕ, List, [], ◌∷◌, ◌++◌, length, Option, None}
use Rattle.std.specs.Prelude.{Result, Ok, Err}
use Rattle.std.specs.Io.KnownBytes.{Consumes}
use Rattle.ipc_device.specs.Reports.{AreAppended, Report}
use Rattle.ipc_model.specs.declared.fault.Fault.{Fault}
use Rattle.ipc_model.specs.declared.limits.Limits.{Limits}
use Rattle.ipc_model.specs.declared.schema.Schema.{Schema}
use Rattle.ipc_model.specs.declared.table.BatchRows.{BatchRows}
use Rattle.ipc_stream_read.specs.declared.end.End.{End}
use Rattle.ipc_stream_read.specs.Counts.{count_up}
use Rattle.ipc_stream_read.specs.Decoding.{ReportsLastEvent}
use Rattle.ipc_stream_read.specs.Reasons.{Reads}
use Rattle.ipc_stream_read.specs.Stream.{State, Run, schema, batch}

-- how many rows batches have together
abbrev pub all_rows : List BatchRows → ℕ
all_rows [] = 0
all_rows (b ∷ batches) = length b.rows + all_rows batches

-- the report after these bytes, from the first of the stream on, and these batches. A count stops
-- at 2^64 - 1
abbrev pub report_of : List ℕ → List BatchRows → Report
report_of x batches = record {
  bytes = count_up 0 (length x);
  batches = count_up 0 (length batches);
  rows = count_up 0 (all_rows batches);
}

-- the bytes are the messages of a schema and of these batches in order, up to the last batch's, and
-- lead to this state. These are the reports after each of the batches
pub data AreReports (limits : Limits) : List ℕ → List BatchRows → List Report → State
    → Type 0 where
  unopened : AreReports limits [] [] [] None
  opened : {x : List ℕ} {s : Schema} {σ : State} → Run limits None x (schema s ∷ []) σ
      → AreReports limits x [] [] σ
  more : {x y : List ℕ} {batches : List BatchRows} {b : BatchRows} {reports : List Report}
      {σ τ : State} → AreReports limits x batches reports σ
      → ReportsLastEvent limits σ y (batch b) τ
      → AreReports limits (x ++ y) (batches ++ b ∷ [])
      (reports ++ report_of (x ++ y) (batches ++ b ∷ []) ∷ []) τ

-- reports were added: of the batches in a beginning x of the bytes that were taken. These bytes end
-- with `rest`, before which the state is the given
pub record Reports (limits : Limits) (old new : Option (List ℕ))
    (reports_old reports_new : Option (List Report)) : Type 0 where
  pub x : List ℕ
  pub rest : List ℕ
  pub batches : List BatchRows
  pub reports : List Report
  pub state : State
  pub bytes : Consumes old new (x ++ rest)
  pub are : AreReports limits x batches reports state
  pub report : AreAppended reports_old reports_new reports

-- no batch is read from these bytes: there are none, or reading ends among them with this result
abbrev pub HasNoBatch : Limits → State → List ℕ → Option (List ℕ) → Result End Fault → Type 0
HasNoBatch limits σ rest left answer = (rest ≡ []) ⊎ Reads limits σ rest left [] answer

-- these bytes are the messages up to one batch's
abbrev pub HasOneBatch : Limits → State → List ℕ → Type 0
HasOneBatch limits σ rest =
    (b : BatchRows) × ((τ : State) × ReportsLastEvent limits σ rest (batch b) τ)

-- each batch that was read was reported, in order; if bytes were taken after the last one, reading
-- ended among them with this result
abbrev pub ReportsTo : Limits → Option (List ℕ) → Option (List ℕ) → Option (List Report)
    → Option (List Report) → Result End Fault → Type 0
ReportsTo limits old new reports_old reports_new answer =
    (r : Reports limits old new reports_old reports_new)
    × HasNoBatch limits r.state r.rest new answer

-- each batch that was read was reported, in order, and reading did not break off
abbrev pub ReportsAll : Limits → Option (List ℕ) → Option (List ℕ) → Option (List Report)
    → Option (List Report) → Type 0
ReportsAll limits old new reports_old reports_new =
    (end : End) × ReportsTo limits old new reports_old reports_new (Ok end)

-- each batch that was read was reported, in order, before reading broke off for this fault, or
-- ended
abbrev pub ReportsBefore : Limits → Option (List ℕ) → Option (List ℕ) → Option (List Report)
    → Option (List Report) → Fault → Type 0
ReportsBefore limits old new reports_old reports_new fault =
    ReportsTo limits old new reports_old reports_new (Err fault)
    ⊎ ReportsAll limits old new reports_old reports_new

-- each batch that was read was reported, in order, maybe without the last one
abbrev pub ReportsSome : Limits → Option (List ℕ) → Option (List ℕ) → Option (List Report)
    → Option (List Report) → Type 0
ReportsSome limits old new reports_old reports_new =
    (r : Reports limits old new reports_old reports_new)
    × (((answer : Result End Fault) × HasNoBatch limits r.state r.rest new answer)
    ⊎ HasOneBatch limits r.state r.rest)
