use Rattle.std.proofs.Common.{◌≡◌, ◌+◌, ◌*◌, ◌++◌, ℕ, List, map, length, flat_map}
use Rattle.std.specs.List.{AllByRecursion}
use Rattle.serde_json.specs.Data.{Data}
use Rattle.serde_json.specs.View.{view}
use Rattle.ipc_model.specs.Entries.{preorder, all_at}
use Rattle.ipc_model.specs.declared.schema.Field.{Field}
use Rattle.ipc_text_json.specs.SchemaJson.{field_json}
use Rattle.ipc_text_json.specs.SchemaTexts.{IsReadable}
use Rattle.ipc_text_json.proofs.schema_reader.+tree.Given as goal

abbrev pub decreases-read_field : goal.decreases-read_field
decreases-read_field l = 2 * l.depth

abbrev pub decreases-read_children : goal.decreases-read_children
decreases-read_children l = 2 * l.depth + 1

abbrev pub invariant-read_children-loop-number : goal.invariant-read_children-loop-number
invariant-read_children-loop-number l = record {
  count : length l.children.items ≡ l._number;
  read : map view l.entries ≡ flat_map field_json l.children.items ++ map view l.rest;
  all : (fs : List Field) (place : ℕ) (behind : List Data) → place + l.depth ≡ 65 → length fs ≡ l.count
      → AllByRecursion IsReadable (all_at place (map preorder fs)) → map view l.entries ≡ flat_map field_json fs ++ behind
      → (more : List Field) × (fs ≡ l.children.items ++ more) × (length more + l._number ≡ l.count)
      × AllByRecursion IsReadable (all_at place (map preorder more)) × (map view l.rest ≡ flat_map field_json more ++ behind);
}
