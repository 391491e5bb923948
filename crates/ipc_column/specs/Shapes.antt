-- The nodes and buffers that fields need, in pre-order (Arrow Columnar Format, "RecordBatch
-- message"); and the columns that a body has by them, with the dictionaries in force.
use Rattle.std.specs.Prelude.{ℕ, ◌+◌, ℤ, pos, unsigned_abs, List, [], ◌∷◌, map, slice_index_or}
use Rattle.ipc_model.specs.declared.schema.Field.{Field, fold-Field}
use Rattle.ipc_model.specs.declared.schema.Field.TheOpen.{Field-F}
use Rattle.ipc_meta.specs.declared.head.BatchHead.{BatchHead}
use Rattle.ipc_model.specs.declared.layout.Layout.{Layout}
use Rattle.ipc_model.specs.declared.layout.Layout.TheVariants as l
use Rattle.ipc_model.specs.Layouts.{layout, own_buffers}
use Rattle.ipc_column.specs.Columns.{Column, Columns, none, column, body_range}
use Rattle.ipc_column.specs.Dictionaries.{Dictionaries, values_for}
use Rattle.ipc_model.specs.declared.value.Value.{Value}

-- adjacent fields: a field, its children, and the fields after it
pub data Shape : Type 0 where
  bare : Shape
  field : Layout → Shape → Shape → Shape

-- the fields of a list, each with its children
abbrev pub shapes : List (Layout × Shape) → Shape
shapes [] = bare
shapes (f ∷ fs) = field f.0 f.1 (shapes fs)

-- one field's layout and the shape of its children, given those of the children
abbrev pub shape_step : Field-F (Layout × Shape) → Layout × Shape
shape_step f = (layout f.kind f.dictionary, shapes f.children)

-- a field's layout, and the shape of its children
abbrev pub field_shape : Field → Layout × Shape
field_shape = fold-Field (Layout × Shape) shape_step

-- the shape of these fields, children included
abbrev pub shape_of : List Field → Shape
shape_of fields = shapes (map field_shape fields)

-- how many nodes the fields have: one for each field, children included
unfoldable pub node_count : Shape → ℕ
node_count bare = 0
node_count (field l children rest) = 1 + node_count children + node_count rest

-- how many buffers the fields have, children included
unfoldable pub buffer_count : Shape → ℕ
buffer_count bare = 0
buffer_count (field l children rest) = own_buffers l + buffer_count children + buffer_count rest

-- node n: a length and a null count (Message.fbs, FieldNode)
abbrev pub node_at : BatchHead → ℕ → ℤ × ℤ
node_at head n = slice_index_or head.nodes n (pos 0, pos 0)

-- the bytes of buffer b, which has an offset and a length (Schema.fbs, Buffer)
abbrev pub buffer_at : BatchHead → List ℕ → ℕ → List ℕ
buffer_at head body b = let range =
    slice_index_or head.buffers b (pos 0, pos 0) in body_range body (unsigned_abs range.0)
    (unsigned_abs range.1)

-- the validity bitmap of a field whose first buffer is b
abbrev pub validity_at : Layout → BatchHead → List ℕ → ℕ → List ℕ
validity_at l.Null head body b = []
validity_at l.Bits head body b = buffer_at head body b
validity_at (l.Numbers bits signed) head body b = buffer_at head body b
validity_at (l.FixedBytes width) head body b = buffer_at head body b
validity_at (l.VariableBytes utf8) head body b = buffer_at head body b
validity_at l.Lists head body b = buffer_at head body b
validity_at (l.FixedLists size) head body b = buffer_at head body b
validity_at l.Structs head body b = buffer_at head body b
validity_at (l.Indices bits signed id) head body b = buffer_at head body b

-- the offsets of a field whose first buffer is b; none if its layout has no offsets
abbrev pub offsets_at : Layout → BatchHead → List ℕ → ℕ → List ℕ
offsets_at (l.VariableBytes utf8) head body b = buffer_at head body (b + 1)
offsets_at l.Lists head body b = buffer_at head body (b + 1)
offsets_at (l.FixedLists size) head body b = []
offsets_at l.Structs head body b = []
offsets_at l.Null head body b = []
offsets_at l.Bits head body b = []
offsets_at (l.Numbers bits signed) head body b = []
offsets_at (l.FixedBytes width) head body b = []
offsets_at (l.Indices bits signed id) head body b = []

-- the values of a field whose first buffer is b; none if its layout has no values
abbrev pub values_at : Layout → BatchHead → List ℕ → ℕ → List ℕ
values_at l.Null head body b = []
values_at (l.VariableBytes utf8) head body b = buffer_at head body (b + 2)
values_at l.Bits head body b = buffer_at head body (b + 1)
values_at (l.Numbers bits signed) head body b = buffer_at head body (b + 1)
values_at (l.FixedBytes width) head body b = buffer_at head body (b + 1)
values_at (l.Indices bits signed id) head body b = buffer_at head body (b + 1)
values_at l.Lists head body b = []
values_at (l.FixedLists size) head body b = []
values_at l.Structs head body b = []

-- the values into which a field's slots are indices: those in force for its dictionary's id; none
-- for other layouts
abbrev pub dictionary_of : Dictionaries → Layout → List Value
dictionary_of m (l.Indices bits signed id) = values_for m id
dictionary_of m l.Null = []
dictionary_of m l.Bits = []
dictionary_of m (l.Numbers bits signed) = []
dictionary_of m (l.FixedBytes width) = []
dictionary_of m (l.VariableBytes utf8) = []
dictionary_of m l.Lists = []
dictionary_of m (l.FixedLists size) = []
dictionary_of m l.Structs = []

-- the column of a field whose node is n and whose first buffer is b
abbrev pub column_at : Dictionaries → Layout → BatchHead → List ℕ → ℕ → ℕ → Column
column_at m l head body n b = record {
  layout = l;
  slots = unsigned_abs (node_at head n).0;
  nulls = unsigned_abs (node_at head n).1;
  validity = validity_at l head body b;
  offsets = offsets_at l head body b;
  values = values_at l head body b;
  dictionary = dictionary_of m l;
}

-- the columns of adjacent fields, in this order: a field's own node and buffers, then those of its
-- children, then those of the fields after it
unfoldable pub assigned_columns : Dictionaries → Shape → BatchHead → List ℕ → ℕ → ℕ → Columns
assigned_columns m bare head body n b = none
assigned_columns m (field l children rest) head body n b =
    column (column_at m l head body n b) (assigned_columns m children head body (n + 1)
    (b + own_buffers l))
    (assigned_columns m rest head body (n + 1 + node_count children)
    (b + own_buffers l + buffer_count children))

-- the columns of the fields
abbrev pub field_columns : Dictionaries → List Field → BatchHead → List ℕ → Columns
field_columns m fields head body = assigned_columns m (shape_of fields) head body 0 0

-- a field's layout
abbrev pub field_layout : Field → Layout
field_layout f = (field_shape f).0

-- the shape of a field's children
abbrev pub child_shape : Field → Shape
child_shape f = (field_shape f).1
