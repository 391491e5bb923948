use Rattle.std.proofs.Common.{List, ℕ, take}
use Rattle.ipc_model.specs.WellFormed.{WellFormed}
use Rattle.ipc_model.specs.declared.limits.Limits.{Limits}
use Rattle.ipc_stream.specs.PendingBatches.{HoldsBatch, no_rows, with_rows}
use Rattle.ipc_stream.proofs.pending_batch.PendingBatch.push_all.Given as goal

abbrev pub invariant-loop-row : goal.invariant-loop-row
invariant-loop-row l = (limits : Limits) (pairs : List (List ℕ × List ℕ)) → WellFormed limits l.schema
    → HoldsBatch limits l.schema (no_rows pairs) l.initial.self
    → HoldsBatch limits l.schema (with_rows pairs (take l.row-index l.rows)) l.self
