use Rattle.std.proofs.Common.{ℕ, ◌<◌, length, [], get_or}
use Rattle.ipc_conform.proofs.FittingColumns.{FitsAt}
use Rattle.ipc_conform.proofs.conforming.columns_fit.Given as goal

-- each row fits the first fields
abbrev pub invariant-loop-i : goal.invariant-loop-i
invariant-loop-i l = (r : ℕ) → r < length l.batch.rows → (k : ℕ) → k < l.i → FitsAt l.fields (get_or l.batch.rows r []) k
