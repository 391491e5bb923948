-- The counts of one column without children whose values are counted and not stored
-- (Arrow Columnar Format, "Array lengths").
use Rattle.std.specs.Prelude.{◌≡◌, List, [], ◌∷◌, map}
use Rattle.ipc_model.specs.declared.limits.Limits.{Limits}
use Rattle.ipc_model.specs.declared.schema.Field.{Field}
use Rattle.ipc_model.specs.declared.value.Value.{Value}
use Rattle.ipc_column.specs.Shapes.{bare, field, shape_of}
use Rattle.ipc_encode.specs.declared.column_sizes.ColumnSizes.{ColumnSizes}
use Rattle.ipc_encode.specs.Buffers.{row_columns}
use Rattle.ipc_encode.specs.Built.{AreCountsOf}
use Rattle.ipc_encode.specs.Limits.{IsWithin}

-- values as rows of one value each (Message.fbs, DictionaryBatch: a record batch of one column)
abbrev pub as_rows : List Value → List (List Value)
as_rows values = map (λ v. v ∷ []) values

-- the fields are one column without children, and these are its counts with these rows, which are
-- within the limits (Arrow Columnar Format, "Array lengths")
pub record CountsRows (limits : Limits) (fields : List Field) (rows : List (List Value))
    (column : ColumnSizes) : Type 0 where
  pub shape : shape_of fields ≡ field column.layout bare bare
  pub counts : AreCountsOf limits column.layout (row_columns rows 0) column.counts
  pub within : IsWithin limits fields rows
