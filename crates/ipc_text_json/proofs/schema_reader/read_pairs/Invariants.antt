use Rattle.std.proofs.Common.{◌≡◌, ◌++◌, ℕ, List, map, drop}
use Rattle.serde_json.specs.View.{items_view}
use Rattle.serde_json.specs.View.{items_of}
use Rattle.ipc_text_json.specs.SchemaJson.{pair_json}
use Rattle.ipc_text_json.proofs.schema_reader.read_pairs.Given as goal

abbrev pub invariant-loop-pair : goal.invariant-loop-pair
invariant-loop-pair l = record {
  read : (rest : List (List ℕ × List ℕ)) → items_view (drop l.pair-index l.pair-items) ≡ items_of (map pair_json rest)
      → items_view l.pair-items ≡ items_of (map pair_json (l.pairs.items ++ rest));
  all : (pairs : List (List ℕ × List ℕ)) → items_view l.pair-items ≡ items_of (map pair_json pairs)
      → (rest : List (List ℕ × List ℕ)) × (pairs ≡ l.pairs.items ++ rest)
      × (items_view (drop l.pair-index l.pair-items) ≡ items_of (map pair_json rest));
}
