use Rattle.std.proofs.Common.{◌≡◌, ◌+◌, ◌++◌, ℕ, List, length}
use Rattle.ipc_text_csv.specs.RowCsv.{with_fields, all_texts, each_text}
use Rattle.job_print.specs.LentRows.{HaveRow, row_at}
use Rattle.job_print.proofs.csv_row.put_cells.Given as goal

-- what is left to write stands after what was written
abbrev pub invariant-loop-fields : goal.invariant-loop-fields
invariant-loop-fields l = record {
  columns : length l.columns ≡ length l.fields;
  row : HaveRow l.columns l.row;
  number : l.number + length l.fields ≡ length l.fn.fields;
  before : (more : List ℕ) × (l.out.text ≡ l.fn.out.text ++ more);
  text : with_fields l.dialect.delimiter l.number l.out.text (all_texts l.number (each_text l.dialect l.fields (row_at l.columns
      l.row)))
      ≡ with_fields l.dialect.delimiter 0 l.fn.out.text (all_texts 0 (each_text l.dialect l.fn.fields (row_at l.fn.columns l.row)));
}

abbrev pub decreases-loop-fields : goal.decreases-loop-fields
decreases-loop-fields l = length l.fields
