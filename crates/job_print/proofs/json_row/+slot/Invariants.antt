use Rattle.std.proofs.Common.{◌≡◌, ◌++◌, map, drop, false}
use Rattle.serde_json.specs.Written.{compact_text, items_text}
use Rattle.ipc_column.specs.Nested.{child_columns}
use Rattle.ipc_column.specs.Values.{row}
use Rattle.ipc_text_json.specs.RowJson.{cell_json, items_json, row_field, values_json}
use Rattle.job_print.specs.LentSlots.{values_between}
use Rattle.job_print.proofs.texts.CellTexts.{text_behind}
use Rattle.job_print.proofs.json_row.+slot.Given as goal

-- the first of the slots were written
abbrev pub invariant-put_slots-loop-number : goal.invariant-put_slots-loop-number
invariant-put_slots-loop-number l = record {
  text : l.out.text
      ++ items_text l.later (items_json (cell_json l.shape l.field) (drop l.number (values_between l.column l.from l.count)))
      ≡ l.initial.out.text ++ items_text false (items_json (cell_json l.shape l.field) (values_between l.column l.from l.count));
}

-- the first values were written, each by its field
abbrev pub invariant-put_struct-loop-number : goal.invariant-put_struct-loop-number
invariant-put_struct-loop-number l = record {
  text : l.out.text
      ++ text_behind l.shape l.later (map (row_field l.shape) (drop l.number l.children))
      (drop l.number (row (child_columns l.column) l.slot))
      ≡ l.fn.out.text ++ compact_text (values_json l.shape (map (row_field l.shape) l.children) (row (child_columns l.column) l.slot));
}
