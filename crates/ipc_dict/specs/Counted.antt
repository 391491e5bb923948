-- The values that a plan has for the rows of a batch (Arrow Columnar Format, "Dictionary-encoded
-- Layout").
use Rattle.std.specs.Prelude.{◌≡◌, ℤ, List}
use Rattle.std.specs.Option.{option_map}
use Rattle.ipc_model.specs.declared.schema.Field.{Field}
use Rattle.ipc_model.specs.declared.value.Value.{Value}
use Rattle.ipc_dict.specs.declared.entry.TallyEntry.{TallyEntry}
use Rattle.ipc_dict.specs.Distinct.{distinct}
use Rattle.ipc_dict.specs.Noting.{of_id, values_noted_for}
use Rattle.ipc_dict.specs.Pairs.{rows_pairs}
use Rattle.ipc_dict.specs.SchemaIds.{empty_entries}

-- for each id that a field names, exactly the distinct values other than null that the rows have
-- there, in order of first appearance; no entry for any other id
abbrev pub HoldsRows : List Field → List (List Value) → List TallyEntry → Type 0
HoldsRows fields rows entries = (id : ℤ) → values_noted_for entries id
    ≡ option_map (λ none. distinct (of_id id (rows_pairs fields rows)))
    (values_noted_for (empty_entries fields) id)
