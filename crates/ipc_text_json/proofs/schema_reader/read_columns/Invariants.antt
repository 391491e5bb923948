use Rattle.std.proofs.Common.{◌≡◌, ◌+◌, ◌≤◌, ◌++◌, [], List, map, length, flat_map}
use Rattle.std.specs.List.{AllByRecursion}
use Rattle.serde_json.specs.View.{view}
use Rattle.ipc_model.specs.Entries.{preorder, all_at}
use Rattle.ipc_model.specs.declared.schema.Field.{Field}
use Rattle.ipc_text_json.specs.SchemaJson.{field_json}
use Rattle.ipc_text_json.specs.SchemaTexts.{IsReadable}
use Rattle.ipc_text_json.proofs.schema_reader.read_columns.Given as goal

abbrev pub invariant-loop-number : goal.invariant-loop-number
invariant-loop-number l = record {
  size : length l.rest + l._number ≤ length l.entries;
  read : map view l.entries ≡ flat_map field_json l.columns.items ++ map view l.rest;
  all : (fs : List Field) → AllByRecursion IsReadable (all_at 1 (map preorder fs)) → map view l.entries ≡ flat_map field_json fs
      → (more : List Field) × (fs ≡ l.columns.items ++ more) × AllByRecursion IsReadable (all_at 1 (map preorder more))
      × (map view l.rest ≡ flat_map field_json more ++ []);
}
