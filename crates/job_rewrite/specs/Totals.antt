-- The totals of what is sent when a stream is rewritten.
use Rattle.std.specs.Prelude.{◌≤◌, ℕ, List, length, Option, Some, None, ⊤}
use Rattle.ipc_model.specs.declared.table.BatchRows.{BatchRows}
use Rattle.ipc_stream_read.specs.Progress.{all_rows}
use Rattle.job_rewrite.specs.declared.options.RewriteOptions.{RewriteOptions}
use Rattle.job_rewrite.specs.declared.options.Total.{Total}
use Rattle.job_rewrite.specs.declared.options.Total.TheVariants.{Batches, Bytes, Rows}

-- the number is at most the maximum, if there is one
abbrev pub IsWithin : Option ℕ → ℕ → Type 0
IsWithin None count = ⊤
IsWithin (Some most) count = count ≤ most

-- there are no more batches than the options allow, and no more rows in all of them together
pub record AreWithin (options : RewriteOptions) (batches : List BatchRows) : Type 0 where
  pub batches_within : IsWithin options.max_batches (length batches)
  pub rows_within : IsWithin options.max_rows (all_rows batches)

-- the batches, or their rows together, are more than the options allow
abbrev pub AreAbove : RewriteOptions → Total → List BatchRows → Type 0
AreAbove options Batches batches = IsWithin options.max_batches (length batches) → ⊥
AreAbove options Rows batches = IsWithin options.max_rows (all_rows batches) → ⊥
AreAbove options Bytes batches = ⊥
