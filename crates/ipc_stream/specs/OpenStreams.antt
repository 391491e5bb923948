-- The value of a stream whose schema was sent (Arrow Columnar Format, "IPC Streaming Format").
use Rattle.std.specs.Prelude.{◌≡◌, ◌≤◌, ℤ, List, Some}
use Rattle.std.specs.List.{AllByRecursion}
use Rattle.ipc_model.specs.Entries.{entries}
use Rattle.ipc_model.specs.Fits.{RowFits}
use Rattle.ipc_model.specs.WellFormed.{IsFieldWellFormed, WellFormed}
use Rattle.ipc_model.specs.declared.limits.Limits.{Limits}
use Rattle.ipc_model.specs.declared.schema.Field.{Field}
use Rattle.ipc_model.specs.declared.schema.Schema.{Schema}
use Rattle.ipc_model.specs.declared.value.Value.{Value}
use Rattle.ipc_encode.specs.Limits.{IsWithin}
use Rattle.ipc_dict_read.specs.DictionariesState.{DictionariesState}
use Rattle.ipc_dict_read.specs.ValuesColumns.{IsOneColumn, columns_for, dictionary_columns}
use Rattle.ipc_dict.specs.declared.kept.KeptEntry.{KeptEntry}
use Rattle.ipc_dict.specs.declared.seed.Seed.{Seed}
use Rattle.ipc_dict.specs.PlanState.{PlanState}
use Rattle.ipc_dict.specs.Planning.{after_all}
use Rattle.ipc_dict.specs.SchemaIds.{ids_of, kept_ids, tally_ids}
use Rattle.ipc_dict.specs.Sending.{AreCounted}
use Rattle.ipc_dict.specs.Within.{dictionary_room_of}

-- a stream whose schema was sent: its limits, its schema, the values that were sent of each
-- dictionary, and the seed of the hashes of values
pub record OpenStreamState : Type 0 where
  pub limits : Limits
  pub schema : Schema
  pub kept : List KeptEntry
  pub seed : Seed

-- the schema is well formed, these are the columns of its dictionaries, and `kept` has an entry for
-- each of them. Each index type of the fields can address the values that were sent
pub record IsGoingOn (limits : Limits) (s : Schema) (columns : DictionariesState)
    (kept : List KeptEntry) : Type 0 where
  pub well_formed : WellFormed limits s
  pub columns_are : columns.columns ≡ dictionary_columns s.fields
  pub ids : kept_ids kept ≡ ids_of s.fields
  pub counted : AreCounted s.fields kept

-- these rows can be sent as the dictionary with the id: its column is well formed, the rows fit it,
-- and they and the message's metadata are within the limits
pub record CanBeSent (limits : Limits) (s : Schema) (send : ℤ × List (List Value)) : Type 0 where
  pub columns : List Field
  pub named : columns_for (dictionary_columns s.fields) send.0 ≡ Some columns
  pub one : IsOneColumn columns
  pub fine : AllByRecursion (IsFieldWellFormed limits) (entries columns)
  pub fit : AllByRecursion (RowFits columns) send.1
  pub within : IsWithin limits columns send.1
  pub short : dictionary_room_of columns ≤ limits.metadata

-- a plan changes the values sent from the old to the new
pub record Leads (old new : List KeptEntry) (plan : PlanState) : Type 0 where
  pub ids : kept_ids old ≡ tally_ids plan.entries
  pub after : after_all old plan.entries plan.numbers ≡ new
