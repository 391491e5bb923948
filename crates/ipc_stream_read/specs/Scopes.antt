-- What is in force after a schema (Arrow Columnar Format, "IPC Streaming Format" and "Dictionary
-- Messages").
use Rattle.std.specs.Prelude.{◌≡◌, ℤ, List, map, Option, Some, None}
use Rattle.std.specs.Option.{ForSome}
use Rattle.ipc_model.specs.declared.limits.Limits.{Limits}
use Rattle.ipc_column.specs.Contents.{Contents}
use Rattle.ipc_column.specs.DictionaryBatches.{dictionary_values}
use Rattle.ipc_stream_read.specs.declared.scope.Scope.{Scope}
use Rattle.ipc_stream_read.specs.Stream.{DictionaryInForce, InForce, State}

-- a dictionary in force, from the batch that set it
abbrev pub set_by : Contents → DictionaryInForce
set_by batch = record { values = dictionary_values batch; bytes = batch.body_len }

-- the dictionaries in force, from the batches that are stored, by their ids
abbrev pub dictionaries_of : List (ℤ × Contents) → List (ℤ × DictionaryInForce)
dictionaries_of batches = map (λ e. (e.0, set_by e.1)) batches

-- what is in force, from a scope
abbrev pub in_scope : Scope → InForce
in_scope scope = record {
  schema = scope.schema;
  dictionaries = dictionaries_of scope.dictionaries.current;
}

-- what is in force, from the stored scope, if there is one
abbrev pub state_of : Option Scope → State
state_of None = None
state_of (Some scope) = Some (in_scope scope)

-- the stored scope, if there is one, has these limits
abbrev pub IsUnder : Limits → Option Scope → Type 0
IsUnder limits scope = ForSome scope (λ s. s.limits ≡ limits)
