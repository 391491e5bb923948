use Rattle.std.proofs.Common.{◌≡◌, ◌<◌, ◌≤◌, ℕ, List, [], ◌∷◌, length, Option}
use Rattle.ipc_model.specs.declared.value.Value.{Value}
use Rattle.ipc_stream.specs.PendingBatches.{HoldsBatch, no_rows}
use Rattle.ipc_text_csv.specs.Records.{IsSetUp, input_of}
use Rattle.job_from_csv.specs.Steps.{Came, HoldsLeftover}
use Rattle.job_from_csv.proofs.convert.push_rows.Given as goal

-- the rows of the records so far are held
abbrev pub invariant-loop : goal.invariant-loop
invariant-loop g l =
    IsSetUp l.dialect l.rows.reader × (l.fn.rows.count ≤ l.rows.count) × (l.batch.writer.ghost_name ≡ l.fn.batch.writer.ghost_name)
    × (0 < l.counter) × (l.counter ≤ l.size.rows) × ((input old : Option (List ℕ)) (failures : ℕ)
    → Came l.dialect g.R.Read.remaining input l.schema l.size old failures l.fn.rows l.fn.batch.writer.now (l.fn.rows.row ∷ [])
    → HoldsBatch l.fn.batch.writer.now.limits l.fn.batch.writer.now.schema (no_rows []) l.fn.batch.batch
    → (left : List (List Value)) × HoldsLeftover l.dialect g.R.Read.remaining input l.schema l.size old failures l.rows l.batch.writer.now
    l.batch.batch left
    × (length left ≡ l.counter)) × (g.R.ReportsFailure.failures (input_of l.rows.reader) ≡ 0)
