-- Batches with one more, and the totals.
use Rattle.std.proofs.Common.{◌≡◌, ◌∙◌, sym, ap, subst, ℕ, ◌+◌, List, [], ◌∷◌, ◌++◌, length, length-append, arith}
use Rattle.ipc_model.specs.declared.table.BatchRows.{BatchRows}
use Rattle.ipc_stream_read.specs.Progress.{all_rows}
use Rattle.job_rewrite.specs.declared.options.RewriteOptions.{RewriteOptions}
use Rattle.job_rewrite.specs.declared.options.Total.TheVariants.{Batches, Rows}
use Rattle.job_rewrite.specs.Totals.{AreAbove, AreWithin, IsWithin}

-- how many batches there are with one more
pub count_last : (batches : List BatchRows) (last : BatchRows) → length (batches ++ last ∷ []) ≡ length batches + 1
count_last batches last = let long = length-append batches (last ∷ []) in omega (arith, long)

-- how many rows batches have with one more
pub rows_last : (batches : List BatchRows) (last : BatchRows) → all_rows (batches ++ last ∷ []) ≡ all_rows batches + length last.rows
rows_last [] last = omega arith
rows_last (b ∷ bs) last = let more = rows_last bs last in omega (arith, more)

module _ (options : RewriteOptions) (done : List BatchRows) (last : BatchRows) (more : ℕ) (is : more ≡ length last.rows) where
  rows_are : all_rows (done ++ last ∷ []) ≡ all_rows done + more
  rows_are = rows_last done last ∙ ap (λ n. all_rows done + n) (sym is)

  -- with one more they are above a total
  pub above_batches : (IsWithin options.max_batches (length done + 1) → ⊥) → AreAbove options Batches (done ++ last ∷ [])
  above_batches above within = above (subst (IsWithin options.max_batches) (count_last done last) within)

  pub above_rows : (IsWithin options.max_rows (all_rows done + more) → ⊥) → AreAbove options Rows (done ++ last ∷ [])
  above_rows above within = above (subst (IsWithin options.max_rows) rows_are within)

  -- or within both
  pub within_both : IsWithin options.max_batches (length done + 1) → IsWithin options.max_rows (all_rows done + more)
      → AreWithin options (done ++ last ∷ [])
  within_both batches rows = record {
    batches_within = subst (IsWithin options.max_batches) (sym (count_last done last)) batches;
    rows_within = subst (IsWithin options.max_rows) (sym rows_are) rows;
  }
