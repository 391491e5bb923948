-- Which dictionaries are within the limits, each as the one column of its message (Arrow Columnar
-- Format, "Dictionary Messages", "Array lengths").
use Rattle.std.specs.Prelude.{◌≡◌, ℕ, ◌<◌, ◌≤◌, List, [], ◌∷◌, Some, ◌⊎◌}
use Rattle.ipc_model.specs.declared.fault.WriteFault.{WriteFault}
use Rattle.ipc_model.specs.declared.fault.WriteFault.TheVariants as w
use Rattle.ipc_model.specs.declared.limits.Limits.{Limits}
use Rattle.ipc_model.specs.declared.schema.Field.{Field}
use Rattle.ipc_meta.specs.Rooms.{dictionary_room}
use Rattle.ipc_column.specs.Shapes.{shape_of, node_count, buffer_count}
use Rattle.ipc_encode.specs.ColumnSizes.{as_rows}
use Rattle.ipc_encode.specs.Limits.{AreRowsRefused, IsWithin}
use Rattle.ipc_dict_read.specs.ValuesColumns.{dictionary_columns, columns_for}
use Rattle.ipc_dict.specs.declared.entry.TallyEntry.{TallyEntry}
use Rattle.ipc_dict.specs.SchemaIds.{empty_entries}

-- the fault is that a column is longer than the limits allow: W6 or W8
abbrev pub IsOfLimits : WriteFault → Type 0
IsOfLimits fault = (fault ≡ w.TooLong) ⊎ (fault ≡ w.TooManyRows)

-- the dictionary's values are within the limits, in the column that the fields give it
abbrev pub IsEntryWithin : Limits → List Field → TallyEntry → Type 0
IsEntryWithin limits fields e = (columns : List Field)
    × ((columns_for (dictionary_columns fields) e.id ≡ Some columns)
    × IsWithin limits columns (as_rows e.values))

-- the values of each dictionary are within the limits
abbrev pub AllWithin : Limits → List Field → List TallyEntry → Type 0
AllWithin limits fields [] = Unit {0}
AllWithin limits fields (e ∷ es) = IsEntryWithin limits fields e × AllWithin limits fields es

-- the dictionary's values are not within the limits, for the reason of this fault
abbrev pub IsEntryOver : Limits → List Field → TallyEntry → WriteFault → Type 0
IsEntryOver limits fields e fault = (columns : List Field)
    × ((columns_for (dictionary_columns fields) e.id ≡ Some columns)
    × (AreRowsRefused limits columns (as_rows e.values) fault × IsOfLimits fault))

-- the values of some dictionary are not within the limits, for the reason of this fault
abbrev pub IsOverLimit : Limits → List Field → List TallyEntry → WriteFault → Type 0
IsOverLimit limits fields [] fault = ⊥
IsOverLimit limits fields (e ∷ es) fault =
    IsEntryOver limits fields e fault ⊎ IsOverLimit limits fields es fault

-- the room of the metadata of a dictionary's message, which depends only on its column
-- (Message.fbs, table DictionaryBatch)
abbrev pub dictionary_room_of : List Field → ℕ
dictionary_room_of columns =
    dictionary_room (node_count (shape_of columns)) (buffer_count (shape_of columns))

-- the metadata of each entry's message is within the limits
abbrev pub AllShort : Limits → List Field → List TallyEntry → Type 0
AllShort limits fields [] = Unit {0}
AllShort limits fields (e ∷ es) = ((columns : List Field)
    × ((columns_for (dictionary_columns fields) e.id ≡ Some columns)
    × (dictionary_room_of columns ≤ limits.metadata))) × AllShort limits fields es

-- the metadata of some entry's message is not within the limits
abbrev pub IsSomeLong : Limits → List Field → List TallyEntry → Type 0
IsSomeLong limits fields [] = ⊥
IsSomeLong limits fields (e ∷ es) = ((columns : List Field)
    × ((columns_for (dictionary_columns fields) e.id ≡ Some columns)
    × (limits.metadata < dictionary_room_of columns))) ⊎ IsSomeLong limits fields es

-- each dictionary of these fields has a message whose metadata is within the limits, whatever its
-- values
abbrev pub HaveShortMessages : Limits → List Field → Type 0
HaveShortMessages limits fields = AllShort limits fields (empty_entries fields)

-- some dictionary of these fields has a message whose metadata is not within the limits
abbrev pub HasLongMessage : Limits → List Field → Type 0
HasLongMessage limits fields = IsSomeLong limits fields (empty_entries fields)
