-- The counts of the columns with which dictionaries are written (Arrow Columnar Format, "Dictionary
-- Messages": a dictionary batch is a record batch of one column).
use Rattle.std.specs.Prelude.{◌≡◌, List, [], ◌∷◌, length, Some}
use Rattle.ipc_model.specs.declared.limits.Limits.{Limits}
use Rattle.ipc_model.specs.declared.schema.Field.{Field}
use Rattle.ipc_encode.specs.declared.column_sizes.ColumnSizes.{ColumnSizes}
use Rattle.ipc_encode.specs.ColumnSizes.{as_rows, CountsRows}
use Rattle.ipc_dict_read.specs.ValuesColumns.{dictionary_columns, columns_for}
use Rattle.ipc_dict.specs.declared.columns.EntryColumns.{EntryColumns}
use Rattle.ipc_dict.specs.declared.entry.TallyEntry.{TallyEntry}

-- the counts are those of the dictionary's values, in the column that the fields give the
-- dictionary
abbrev pub IsEntryCounted : Limits → List Field → TallyEntry → ColumnSizes → Type 0
IsEntryCounted limits fields e column = (columns : List Field)
    × ((columns_for (dictionary_columns fields) e.id ≡ Some columns)
    × CountsRows limits columns (as_rows e.values) column)

-- each dictionary has its counts at the same index (`IsEntryCounted`)
abbrev pub AllCounted : Limits → List Field → List TallyEntry → List ColumnSizes → Type 0
AllCounted limits fields [] [] = Unit {0}
AllCounted limits fields (e ∷ es) (column ∷ columns) =
    IsEntryCounted limits fields e column × AllCounted limits fields es columns
AllCounted limits fields _ _ = ⊥

-- the columns have the counts of these dictionaries, and an entry in `next` for each
pub record AreEntriesCounted (fields : List Field) (entries : List TallyEntry)
    (columns : EntryColumns) : Type 0 where
  pub counted : AllCounted columns.limits fields entries columns.sizes.items
  pub room : length columns.next.items ≡ length columns.sizes.items
