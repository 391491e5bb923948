use Rattle.std.proofs.Common.{◌≡◌, ◌++◌, map, length}
use Rattle.ipc_text_json.specs.RowJson.{row_field, row_text}
use Rattle.job_print.specs.LentRows.{HaveRow, row_at}
use Rattle.job_print.proofs.texts.CellTexts.{text_behind}
use Rattle.job_print.proofs.json_row.json_line.Given as goal

-- what is left to write stands after what was written
abbrev pub invariant-loop-fields : goal.invariant-loop-fields
invariant-loop-fields l = record {
  columns : length l.columns ≡ length l.fields;
  row : HaveRow l.columns l.row;
  text : l.out.text ++ text_behind l.shape l.later (map (row_field l.shape) l.fields) (row_at l.columns l.row)
      ≡ l.fn.out.text ++ row_text l.shape l.fn.fields (row_at l.fn.columns l.row);
}

abbrev pub decreases-loop-fields : goal.decreases-loop-fields
decreases-loop-fields l = length l.fields
