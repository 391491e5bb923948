use Rattle.std.proofs.Common.{◌≡◌, ◌<◌, ℕ, [], length}
use Rattle.std.specs.Prelude.{slice_index_or}
use Rattle.ipc_column.specs.Lent.{AreOfColumn}
use Rattle.job_print.proofs.batch_text.column_readers.Given as goal

-- the first columns were found
abbrev pub invariant-loop-number : goal.invariant-loop-number
invariant-loop-number l = record {
  count : length l.columns.items ≡ l.number;
  each : (j : ℕ) → j < length l.columns.items → AreOfColumn l.batch.rows j (slice_index_or l.columns.items j []);
}
