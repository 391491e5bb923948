use Rattle.std.proofs.Common.{◌≡◌, [], drop}
use Rattle.ipc_dict.specs.SchemaIds.{with_fields}
use Rattle.ipc_dict.proofs.schema_ids.empty_entries.Given as goal

abbrev pub invariant-loop-dictionary : goal.invariant-loop-dictionary
invariant-loop-dictionary l =
    with_fields l.entries.items (drop l.dictionary-index l.dictionary-items) ≡ with_fields [] l.dictionary-items
