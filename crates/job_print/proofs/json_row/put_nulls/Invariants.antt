use Rattle.std.proofs.Common.{◌≡◌, ◌++◌, drop, false, replicate}
use Rattle.std.specs.Prelude.{nat_lt}
use Rattle.serde_json.specs.Written.{items_text}
use Rattle.ipc_model.specs.declared.schema.Field.{Field}
use Rattle.ipc_model.specs.declared.value.Value.TheVariants as v
use Rattle.ipc_text_json.specs.declared.row.RowShape.{RowShape}
use Rattle.ipc_text_json.specs.RowJson.{cell_json, items_json}
use Rattle.job_print.proofs.json_row.put_nulls.Given as goal

-- the first of the nulls were written
abbrev pub invariant-loop-number : goal.invariant-loop-number
invariant-loop-number l = record {
  text : (shape : RowShape) → (field : Field) → l.out.text
      ++ items_text (nat_lt 0 l.number) (items_json (cell_json shape field) (drop l.number (replicate l.count v.Null)))
      ≡ l.initial.out.text ++ items_text false (items_json (cell_json shape field) (replicate l.count v.Null));
}
