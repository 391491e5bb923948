use Rattle.std.proofs.Common.{◌≡◌, ◌++◌, map, drop}
use Rattle.json.specs.Tree.{items_tokens, json_tokens}
use Rattle.serde_json.specs.Written.{items_outline, outline}
use Rattle.ipc_text_json.specs.RowJson.{cell_json, items_json, row_field, row_json}
use Rattle.ipc_text_json.proofs.ValueTokens.{tokens_behind}
use Rattle.ipc_text_json.proofs.row.+cell.Given as goal

abbrev pub invariant-put_values-loop-number : goal.invariant-put_values-loop-number
invariant-put_values-loop-number l = record {
  tokens : l.out.tokens ++ tokens_behind l.shape (map (row_field l.shape) (drop l.number l.fields)) (drop l.number l.values)
      ≡ l.fn.out.tokens ++ json_tokens (outline (row_json l.shape l.fields l.values));
  before : l.out.before ≡ l.fn.out.before;
}

abbrev pub invariant-put_items-loop-value : goal.invariant-put_items-loop-value
invariant-put_items-loop-value l = record {
  tokens : l.out.tokens ++ items_tokens (items_outline (items_json (cell_json l.shape l.child) (drop l.value-index l.values)))
      ≡ l.initial.out.tokens ++ items_tokens (items_outline (items_json (cell_json l.shape l.child) l.values));
  before : l.out.before ≡ l.initial.out.before;
}
