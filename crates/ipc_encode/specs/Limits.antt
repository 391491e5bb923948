-- When rows are too many or too long for one batch (Arrow Columnar Format, "Array lengths").
use Rattle.std.specs.Prelude.{ℕ, ◌<◌, List, length, ◌⊎◌, ⊤}
use Rattle.ipc_model.specs.declared.fault.WriteFault.{WriteFault}
use Rattle.ipc_model.specs.declared.fault.WriteFault.TheVariants as fault
use Rattle.ipc_model.specs.declared.schema.Field.{Field}
use Rattle.ipc_model.specs.declared.value.Value.{Value}
use Rattle.ipc_model.specs.declared.layout.Layout.{Layout}
use Rattle.ipc_model.specs.declared.layout.Layout.TheVariants as l
use Rattle.ipc_encode.specs.Pieces.{Content}
use Rattle.ipc_column.specs.Shapes.{Shape, shape_of}
use Rattle.ipc_encode.specs.Cells.{slots, all_items}
use Rattle.ipc_encode.specs.Buffers.{SomeColumn, row_columns, rows_body}
use Rattle.ipc_model.specs.Limits.{max_data}
use Rattle.ipc_model.specs.declared.limits.Limits.{Limits}

-- a column, or one below it, has more slots than this (Arrow Columnar Format, "Array lengths")
abbrev pub HasLongNode : ℕ → Shape → (ℕ → List Value) → Type 0
HasLongNode most = SomeColumn (λ layout values. most < length values)

-- there are more bytes of binary or UTF-8 data than a 32-bit offset can address (Arrow Columnar
-- Format, "Variable-size Binary Layout")
abbrev pub HasLongData : Layout → List Value → Type 0
HasLongData (l.VariableBytes utf8) values = max_data < length (slots Content values)
HasLongData _ values = ⊥

-- there are more items of lists than a 32-bit offset can address. Where a list has its child, these
-- are the child's slots (Arrow Columnar Format, "Variable-size List Layout")
abbrev pub HasLongItems : Layout → List Value → Type 0
HasLongItems l.Lists values = max_data < length (all_items values)
HasLongItems _ values = ⊥

-- there are more rows than the limits allow, more slots in a column or one below it, or more items
-- of lists than a child can have slots (`HasLongItems`)
abbrev pub IsTooMany : Limits → List Field → List (List Value) → Type 0
IsTooMany limits fields rows = (limits.slots < length rows)
    ⊎ (HasLongNode limits.slots (shape_of fields) (row_columns rows)
    ⊎ SomeColumn HasLongItems (shape_of fields) (row_columns rows))

-- a column of binary or UTF-8 data has more of it than offsets can address (`HasLongData`), or the
-- body would be too long
abbrev pub AreColumnsTooLong : Limits → List Field → List (List Value) → Type 0
AreColumnsTooLong limits fields rows = SomeColumn HasLongData (shape_of fields) (row_columns rows)
    ⊎ (limits.body < length (rows_body fields rows))

-- there is more data than 32-bit offsets can address: bytes (`HasLongData`), or items of lists
-- (`HasLongItems`)
abbrev pub HasExcessData : Layout → List Value → Type 0
HasExcessData (l.VariableBytes utf8) values = max_data < length (slots Content values)
HasExcessData l.Null values = ⊥
HasExcessData l.Bits values = ⊥
HasExcessData (l.Numbers bits signed) values = ⊥
HasExcessData (l.FixedBytes width) values = ⊥
HasExcessData l.Lists values = max_data < length (all_items values)
HasExcessData l.Structs values = ⊥
HasExcessData (l.FixedLists size) values = ⊥
HasExcessData (l.Indices bits signed id) values = ⊥

-- the rows are within the limits
pub record IsWithin (limits : Limits) (fields : List Field) (rows : List
    (List Value)) : Type 0 where
  pub few : ¬ IsTooMany limits fields rows
  pub short : ¬ AreColumnsTooLong limits fields rows

-- why rows are not written: W6 or W8 with its cause, or out of memory
abbrev pub AreRowsRefused : Limits → List Field → List (List Value) → WriteFault → Type 0
AreRowsRefused limits fields rows fault.TooLong = AreColumnsTooLong limits fields rows
AreRowsRefused limits fields rows fault.TooManyRows = IsTooMany limits fields rows
AreRowsRefused limits fields rows fault.OutOfMemory = ⊤
AreRowsRefused limits fields rows _ = ⊥
