use Rattle.std.proofs.Common.{◌≡◌, ◌++◌, map, drop}
use Rattle.json.specs.Tree.{items_tokens}
use Rattle.serde_json.specs.Written.{items_outline}
use Rattle.serde_json.specs.View.{items_of}
use Rattle.ipc_text_json.specs.SchemaJson.{pair_json}
use Rattle.ipc_text_json.proofs.schema.put_pairs.Given as goal

abbrev pub invariant-loop-pair : goal.invariant-loop-pair
invariant-loop-pair l = record {
  tokens : l.out.tokens ++ items_tokens (items_outline (items_of (map pair_json (drop l.pair-index l.pairs))))
      ≡ l.initial.out.tokens ++ items_tokens (items_outline (items_of (map pair_json l.pairs)));
  before : l.out.before ≡ l.initial.out.before;
}
