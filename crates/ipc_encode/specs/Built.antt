-- The rows that a builder stores (Message.fbs, RecordBatch).
use Rattle.std.specs.Prelude.{◌≡◌, ℕ, suc, ◌+◌, ◌*◌, ◌<◌, ◌≤◌, true, false}
use Rattle.std.specs.Prelude.{List, [], ◌∷◌, ◌++◌, length, ◌⊎◌, ⊤, IfErr, OnOk, Result}
use Rattle.std.specs.List.{AllByRecursion}
use Rattle.ipc_model.specs.Limits.{max_data}
use Rattle.ipc_model.specs.declared.limits.Limits.{Limits}
use Rattle.ipc_model.specs.declared.schema.Field.{Field}
use Rattle.ipc_model.specs.declared.value.Value.{Value}
use Rattle.ipc_model.specs.declared.layout.Layout.{Layout}
use Rattle.ipc_model.specs.declared.layout.Layout.TheVariants as l
use Rattle.ipc_encode.specs.declared.builder.Builder.{Builder}
use Rattle.ipc_encode.specs.declared.column.ColumnBuilder.{ColumnBuilder}
use Rattle.ipc_encode.specs.declared.column.ColumnCounts.{ColumnCounts}
use Rattle.ipc_encode.specs.declared.column.ColumnData.{ColumnData}
use Rattle.ipc_encode.specs.declared.column.ColumnData.TheVariants as kind
use Rattle.ipc_encode.specs.declared.fault.PushFault.{PushFault}
use Rattle.ipc_encode.specs.declared.fault.PushFault.TheVariants as fault
use Rattle.ipc_encode.specs.declared.tree.Node.{Node, out-Node}
use Rattle.ipc_column.specs.Shapes.{Shape, bare, field, node_count, shape_of}
use Rattle.ipc_encode.specs.Buffers.{child_values, row_columns, padded_bytes, column_buffers}
use Rattle.ipc_encode.specs.Buffers.{buffers_of, column_nulls}
use Rattle.ipc_encode.specs.Bitmaps.{bitmap}
use Rattle.ipc_encode.specs.Faults.{write_fault}
use Rattle.ipc_encode.specs.Cells.{HasUtf8, flags, offsets, slots}
use Rattle.ipc_encode.specs.Columns.{validity_in, data_in}
use Rattle.ipc_encode.specs.Numbers.{Numbering, indices_of}
use Rattle.ipc_encode.specs.Pieces.{Bytes, Content, Fixed, Items, Number, True}
use Rattle.ipc_encode.specs.Indices.{AgreeOn}
use Rattle.ipc_encode.specs.Buffers.{SomeColumn}
use Rattle.ipc_encode.specs.Limits.{HasLongData, HasLongItems, HasLongNode, HasExcessData}
use Rattle.ipc_encode.specs.Limits.{AreRowsRefused, IsWithin}

-- the counts of a column of this layout with these values, which are within the limits
pub record AreCountsOf (limits : Limits) (layout : Layout) (values : List Value)
    (counts : ColumnCounts) : Type 0 where
  pub slots_are : counts.slots ≡ length values
  pub nulls_are : counts.nulls ≡ column_nulls layout values
  pub amount_is : counts.amount ≡ data_in layout values
  pub few : ¬ (limits.slots < length values)
  pub short : ¬ HasExcessData layout values

-- the layout of a column that holds this
abbrev pub data_layout : ColumnData → Layout
data_layout kind.Null = l.Null
data_layout (kind.Bits bytes) = l.Bits
data_layout (kind.Numbers bits signed bytes) = l.Numbers bits signed
data_layout (kind.FixedBytes width bytes) = l.FixedBytes width
data_layout (kind.VariableBytes utf8 ends bytes) = l.VariableBytes utf8
data_layout (kind.Lists ends count) = l.Lists
data_layout (kind.FixedLists size) = l.FixedLists size
data_layout kind.Structs = l.Structs
data_layout (kind.Indices held) = l.Indices held.bits held.signed held.id

-- the offsets and the bytes of values, which the offsets can address; texts are UTF-8 (Arrow
-- Columnar Format, "Variable-size Binary Layout")
pub record AreContents (values : List Value) (ends bytes : List ℕ) : Type 0 where
  pub offsets_are : ends ≡ offsets Bytes values
  pub bytes_are : bytes ≡ slots Content values
  pub texts : AllByRecursion HasUtf8 values
  pub short : length bytes ≤ max_data

-- the offsets of lists, and the number of their items, which the offsets can address (Arrow
-- Columnar Format, "Variable-size List Layout")
pub record AreListEnds (values : List Value) (ends : List ℕ) (count : ℕ) : Type 0 where
  pub offsets_are : ends ≡ offsets Items values
  pub items_are : count ≡ data_in l.Lists values
  pub short : count ≤ max_data

-- a column holds this for these values; indices are stored as numbers until it is written (Arrow
-- Columnar Format, "Buffer Listing for Each Layout")
abbrev pub HoldsValues : Numbering → List Value → ColumnData → Type 0
HoldsValues indices values (kind.Bits bytes) = bytes.items ≡ bitmap (flags True values)
HoldsValues indices values (kind.Numbers bits signed bytes) =
    bytes.items ≡ slots (Number bits) values
HoldsValues indices values (kind.FixedBytes width bytes) =
    bytes.items ≡ slots (Fixed width) values
HoldsValues indices values (kind.VariableBytes utf8 ends bytes) =
    AreContents values ends.items bytes.items
HoldsValues indices values (kind.Lists ends count) = AreListEnds values ends.items count
HoldsValues indices values (kind.Indices held) =
    held.indices.items ≡ indices_of (indices held.id) values
HoldsValues indices values _ = ⊤

-- the bytes of a column of fixed or variable width are within a body
abbrev pub AreBytesWithin : Limits → Layout → ℕ → Type 0
AreBytesWithin limits (l.FixedBytes width) amount = amount ≤ limits.body
AreBytesWithin limits (l.VariableBytes utf8) amount = amount ≤ limits.body
AreBytesWithin limits _ amount = ⊤

-- a column of this layout with these values, which are within the limits
pub record IsColumn (indices : Numbering) (limits : Limits) (layout : Layout) (values : List Value)
    (column : ColumnBuilder) : Type 0 where
  pub laid : data_layout column.data ≡ layout
  pub slots_are : column.slots ≡ length values
  pub nulls_are : column.nulls ≡ column_nulls layout values
  pub few : ¬ (limits.slots < length values)
  pub short : AreBytesWithin limits layout (data_in layout values)
  pub validity_are : column.validity.items ≡ validity_in layout values
  pub holds : HoldsValues indices values column.data

-- a column of this layout with these values, and then perhaps others
abbrev pub BeginsWith : Numbering → Limits → Layout → List Value → ColumnBuilder → Type 0
BeginsWith indices limits layout values column =
    (more : List Value) × IsColumn indices limits layout (values ++ more) column

-- the nodes have this shape, and the property holds for each column with its values, at every
-- level; `given` has the values of each column by its number
abbrev pub AreNodes : (Layout → List Value → ColumnBuilder → Type 0) → Shape → List Node
    → (ℕ → List Value) → Type 0
AreNodes Property bare [] given = ⊤
AreNodes Property bare (node ∷ nodes) given = ⊥
AreNodes Property (field l children rest) [] given = ⊥
AreNodes Property (field l children rest) (node ∷ nodes) given =
    (Property l (given 0) (out-Node node).column
    × AreNodes Property children (out-Node node).children.items (child_values l (given 0)))
    × AreNodes Property rest nodes (λ j. given (suc j))

-- the node has this layout and shape of children, and the property holds for its column and each
-- column below it
abbrev pub IsNode : (Layout → List Value → ColumnBuilder → Type 0) → Layout → Shape → Node
    → List Value
    → Type 0
IsNode Property l children node values = Property l values (out-Node node).column
    × AreNodes Property children (out-Node node).children.items (child_values l values)

-- the nodes hold columns of this shape; `given` has the values of each column by its number
abbrev pub HoldColumns : Numbering → Limits → Shape → List Node → (ℕ → List Value) → Type 0
HoldColumns indices limits = AreNodes (IsColumn indices limits)

-- columns of this shape with these values are within the limits
pub record AreColumnsWithin (limits : Limits) (shape : Shape) (given : ℕ → List Value) : Type
    0 where
  pub few : ¬ HasLongNode limits.slots shape given
  pub short : ¬ SomeColumn HasExcessData shape given
  pub body : length (padded_bytes (buffers_of shape given)) ≤ limits.body

-- this number of columns that keep to these bounds is within a body: a slot takes at most nine
-- bytes of validity, offsets and numbers, and a column at most 32 more beside its data
abbrev pub AreShares : Limits → ℕ → Limits → Type 0
AreShares limits columns bounds =
    columns * (9 * bounds.slots + bounds.body + 32) ≤ limits.body

-- the bounds of the builder's columns are within the limits, and shares of a body if it shares one
pub record HasBounds (limits : Limits) (shape : Shape) (builder : Builder) : Type 0 where
  pub few : builder.bounds.slots ≤ limits.slots
  pub less : builder.bounds.body ≤ limits.body
  pub shared : builder.is_shared ≡ true → AreShares limits (node_count shape) builder.bounds

-- the columns of the builder hold exactly these rows of these fields; `indices` gives the index of
-- each dictionary value
pub record HoldsRows (indices : Numbering) (limits : Limits) (fields : List Field) (rows : List
    (List Value))
    (builder : Builder) : Type 0 where
  pub limits_are : builder.limits ≡ limits
  pub works : builder.failed ≡ false
  pub count : builder.rows ≡ length rows
  pub bounded : HasBounds limits (shape_of fields) builder
  pub columns_are : HoldColumns indices builder.bounds (shape_of fields) builder.nodes.items
      (row_columns rows)

-- the columns of the builder begin with these rows of these fields, and then perhaps have some of
-- another row
pub record BeginsWithRows (indices : Numbering) (limits : Limits) (fields : List Field) (rows : List
    (List Value))
    (builder : Builder) : Type 0 where
  pub limits_are : builder.limits ≡ limits
  pub count : builder.rows ≡ length rows
  pub bounded : HasBounds limits (shape_of fields) builder
  pub columns_begin : AreNodes (BeginsWith indices builder.bounds) (shape_of fields)
      builder.nodes.items
      (row_columns rows)

-- the builder stores exactly these rows of these fields, which are within the limits; `indices`
-- gives the index of each dictionary value
pub record StoresRows (indices : Numbering) (limits : Limits) (fields : List Field) (rows : List
    (List Value))
    (builder : Builder) : Type 0 where
  pub limits_are : builder.limits ≡ limits
  pub works : builder.failed ≡ false
  pub count : builder.rows ≡ length rows
  pub bounded : HasBounds limits (shape_of fields) builder
  pub columns_are : HoldColumns indices builder.bounds (shape_of fields) builder.nodes.items
      (row_columns rows)
  pub within : IsWithin limits fields rows

-- why a column does not take the last of these values: too many slots or items of lists, more bytes
-- than its offsets can address, more than a body may have, or out of memory
abbrev pub IsPushRefused : Limits → Layout → List Value → PushFault → Type 0
IsPushRefused limits layout values fault.TooLong =
    HasLongData layout values ⊎ (limits.body < length (padded_bytes (column_buffers layout values)))
IsPushRefused limits layout values fault.TooMany =
    (limits.slots < length values) ⊎ HasLongItems layout values
IsPushRefused limits layout values fault.OutOfMemory = ⊤
IsPushRefused limits layout values fault.DictionaryFull = ⊥
IsPushRefused limits layout values fault.Failed = ⊥

-- why columns of this shape, or columns below them, do not take the last of these values: too many
-- slots or items of lists, more bytes than offsets can address or a body may have, or out of memory
abbrev pub ArePushesRefused : Limits → Shape → (ℕ → List Value) → PushFault → Type 0
ArePushesRefused limits shape given fault.TooLong = SomeColumn HasLongData shape given
    ⊎ (limits.body < length (padded_bytes (buffers_of shape given)))
ArePushesRefused limits shape given fault.TooMany =
    HasLongNode limits.slots shape given ⊎ SomeColumn HasLongItems shape given
ArePushesRefused limits shape given fault.OutOfMemory = ⊤
ArePushesRefused limits shape given fault.DictionaryFull = ⊥
ArePushesRefused limits shape given fault.Failed = ⊥

-- what a call does that adds values to columns of this shape, which held `given`: `Ok` where they
-- hold `all`. A fault is true of `all`, and unless memory ran out the columns still begin with
-- `given`
pub record Appends {T : Type 0} (indices : Numbering) (limits : Limits) (shape : Shape)
    (given all : ℕ → List Value)
    (nodes : List Node) (result : Result T PushFault) : Type 0 where
  pub appended : OnOk result (HoldColumns indices limits shape nodes all)
  pub refused : IfErr result (ArePushesRefused limits shape all)
  pub begun : IfErr result (λ e. ¬ (e ≡ fault.OutOfMemory)
      → AreNodes (BeginsWith indices limits) shape nodes given)

-- what a call does that adds values to a column of this layout and to its children, which held
-- `values`, as `Appends` says it of several columns
pub record AppendsTo {T : Type 0} (indices : Numbering) (limits : Limits) (layout : Layout)
    (children : Shape)
    (values all : List Value)
    (node : Node) (result : Result T PushFault) : Type 0 where
  pub appended : OnOk result (IsNode (IsColumn indices limits) layout children node all)
  pub refused : IfErr result (ArePushesRefused limits (field layout children bare) (λ j. all))
  pub begun : IfErr result (λ e. ¬ (e ≡ fault.OutOfMemory)
      → IsNode (BeginsWith indices limits) layout children node values)

-- a call adds these values to a column and what they give to its children, whatever these held
-- (`AppendsTo`)
abbrev pub AddsValues : {T : Type 0} → Numbering → Limits → List Value → Node → Node
    → Result T PushFault → Type 0
AddsValues indices limits more old new result =
    (layout : Layout) (children : Shape) (values : List Value)
    → IsNode (IsColumn indices limits) layout children old values
    → AppendsTo indices limits layout children values (values ++ more) new result

-- a call adds values to each of several columns, by the column's number, whatever these held
-- (`Appends`)
abbrev pub AddsToEach : {T : Type 0} → Numbering → Limits → (ℕ → List Value) → List Node
    → List Node → Result T PushFault → Type 0
AddsToEach indices limits more old new result = (shape : Shape) (given : ℕ → List Value)
    → HoldColumns indices limits shape old given
    → Appends indices limits shape given (λ j. given j ++ more j) new result

-- at Ok the builder stores one row more, whatever it stored
abbrev pub StoresRowMore : {T : Type 0} → Numbering → List Value → Builder → Builder
    → Result T PushFault → Type 0
StoresRowMore indices row old new result =
    (limits : Limits) (fields : List Field) (rows : List (List Value))
    → StoresRows indices limits fields rows old
    → OnOk result (StoresRows indices limits fields (rows ++ row ∷ []) new)

-- a fault is true of the rows that the builder stored with one row more
abbrev pub RefusesRowMore : {T : Type 0} → Numbering → List Value → Builder → Result T PushFault
    → Type 0
RefusesRowMore indices row old result =
    (limits : Limits) (fields : List Field) (rows : List (List Value))
    → StoresRows indices limits fields rows old
    → IfErr result (λ e. AreRowsRefused limits fields (rows ++ row ∷ []) (write_fault e))

-- at a fault the builder stores the rows that it stored, unless memory ran out
abbrev pub KeepsRows : {T : Type 0} → Numbering → Builder → Builder → Result T PushFault → Type 0
KeepsRows indices old new result =
    (limits : Limits) (fields : List Field) (rows : List (List Value))
    → StoresRows indices limits fields rows old
    → IfErr result (λ e. ¬ (e ≡ fault.OutOfMemory) → StoresRows indices limits fields rows new)

-- a growth of the builder's memory was refused earlier
abbrev pub HasFailed : Builder → Type 0
HasFailed builder = builder.failed ≡ true

-- a builder that stores rows with some indices also stores them with any indices that agree on
-- their values
abbrev pub HoldsAgreeing : Type 0
HoldsAgreeing = (known others : Numbering) (limits : Limits) (fields : List Field)
    (rows : List (List Value)) (builder : Builder) → AgreeOn known others fields rows
    → StoresRows known limits fields rows builder → StoresRows others limits fields rows builder
