use Rattle.std.proofs.Common.{◌≡◌, ◌++◌, drop}
use Rattle.ipc_dict.specs.SchemaIds.{of_fields}
use Rattle.ipc_dict.proofs.schema_ids.+collect.Given as goal

abbrev pub invariant-collect-loop-field : goal.invariant-collect-loop-field
invariant-collect-loop-field l =
    l.dictionaries.items ++ of_fields (drop l.field-index l.fields) ≡ l.initial.dictionaries.items ++ of_fields l.fields
