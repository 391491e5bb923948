-- The nodes, the buffers and the body that are written for rows (Arrow Columnar Format,
-- "RecordBatch message").
use Rattle.std.specs.Prelude.{◌≡◌, ℕ, suc, ◌+◌, ◌-◌, ◌%◌, ◌==◌, ℤ, pos, List, [], ◌∷◌, ◌++◌, length}
use Rattle.std.specs.Prelude.{drop, replicate, if◌then◌else◌, ⊤, ◌⊎◌}
use Rattle.ipc_model.specs.declared.schema.Field.{Field}
use Rattle.ipc_model.specs.declared.value.Value.{Value}
use Rattle.ipc_model.specs.declared.layout.Layout.{Layout}
use Rattle.ipc_model.specs.declared.layout.Layout.TheVariants as l
use Rattle.ipc_column.specs.Shapes.{Shape, bare, field, shape_of}
use Rattle.ipc_encode.specs.declared.parts.Parts.{Parts}
use Rattle.ipc_encode.specs.Pieces.{Valid, True, Number, Fixed, Content, Piece}
use Rattle.ipc_encode.specs.Pieces as p
use Rattle.ipc_encode.specs.Bitmaps.{bitmap}
use Rattle.ipc_encode.specs.Cells.{cells, flags, nulls, slots, offsets}
use Rattle.ipc_encode.specs.Cells.{all_items, all_fixed_items, all_parts}
use Rattle.ipc_encode.specs.Numbers.{Numbering, numbers_of}

-- the validity bitmap of values, `count` of which are null; it is absent if none are
-- (Arrow Columnar Format, "Validity bitmaps")
abbrev pub validity : ℕ → Piece
validity count = if count == 0 then p.Absent else p.Flags Valid

-- how many slots of a column of this layout are null; each slot of a column of nulls is
-- (Arrow Columnar Format, "Null Layout")
abbrev pub column_nulls : Layout → List Value → ℕ
column_nulls l.Null values = length values
column_nulls l.Bits values = nulls values
column_nulls (l.Numbers bits signed) values = nulls values
column_nulls (l.FixedBytes width) values = nulls values
column_nulls (l.VariableBytes utf8) values = nulls values
column_nulls l.Lists values = nulls values
column_nulls l.Structs values = nulls values
column_nulls (l.FixedLists size) values = nulls values
column_nulls (l.Indices bits signed id) values = nulls values

-- the content of the buffers of a column, in their order; `count` values are null
-- (Arrow Columnar Format, "Buffer Listing for Each Layout")
abbrev pub pieces : Layout → ℕ → List Piece
pieces l.Null count = []
pieces l.Bits count = validity count ∷ p.Flags True ∷ []
pieces (l.Numbers bits signed) count = validity count ∷ p.Slots (Number bits) ∷ []
pieces (l.FixedBytes width) count = validity count ∷ p.Slots (Fixed width) ∷ []
pieces (l.VariableBytes utf8) count =
    validity count ∷ p.Offsets p.Bytes ∷ p.Slots Content ∷ []
pieces l.Lists count = validity count ∷ p.Offsets p.Items ∷ []
pieces l.Structs count = validity count ∷ []
pieces (l.FixedLists size) count = validity count ∷ []
pieces (l.Indices bits signed id) count = validity count ∷ p.Slots (Number bits) ∷ []

-- the bytes of one buffer for these values
abbrev pub piece_bytes : Piece → List Value → List ℕ
piece_bytes p.Absent values = []
piece_bytes (p.Flags which) values = bitmap (flags which values)
piece_bytes (p.Slots which) values = slots which values
piece_bytes (p.Offsets run) values = offsets run values

-- the bytes of each buffer for these values
abbrev pub buffer_bytes : List Piece → List Value → List (List ℕ)
buffer_bytes [] values = []
buffer_bytes (piece ∷ more) values = piece_bytes piece values ∷ buffer_bytes more values

-- the buffers of a column of this layout with these values, each without padding; for a column of
-- indices, the values are the numbers of the indices
abbrev pub column_buffers : Layout → List Value → List (List ℕ)
column_buffers layout values = buffer_bytes (pieces layout (nulls values)) values

-- the buffers of a column that follow its validity bitmap
abbrev pub data_buffers : Layout → List Value → List (List ℕ)
data_buffers layout values = drop 1 (column_buffers layout values)

-- the values of child j of a column (Arrow Columnar Format, "Variable-size List Layout",
-- "Fixed-Size List Layout", "Struct Layout"). The child of lists has their items; a null list has
-- none, or `size` nulls if the size is fixed. A child of structs has part j of each, null for a
-- null struct
abbrev pub child_values : Layout → List Value → ℕ → List Value
child_values l.Lists values j = all_items values
child_values (l.FixedLists size) values j = all_fixed_items size values
child_values l.Structs values j = all_parts j values
child_values _ values j = []

-- the property holds for each column, and each column below it, with its layout and values;
-- `given` has the values of each column by its number
abbrev pub EachColumn : (Layout → List Value → Type 0) → Shape → (ℕ → List Value) → Type 0
EachColumn Property bare given = ⊤
EachColumn Property (field l children rest) given =
    Property l (given 0) × (EachColumn Property children (child_values l (given 0))
    × EachColumn Property rest (λ j. given (suc j)))

-- the property holds for one of the columns, or for a column below it
abbrev pub SomeColumn : (Layout → List Value → Type 0) → Shape → (ℕ → List Value) → Type 0
SomeColumn Property bare given = ⊥
SomeColumn Property (field l children rest) given =
    Property l (given 0) ⊎ (SomeColumn Property children (child_values l (given 0))
    ⊎ SomeColumn Property rest (λ j. given (suc j)))

-- how many nulls a null adds to each child
abbrev pub nulls_below : Layout → ℕ
nulls_below (l.FixedLists size) = size
nulls_below l.Structs = 1
nulls_below _ = 0

-- a length and a null count for each field and each field below it, in pre-order (Message.fbs,
-- FieldNode); `given` has the values of each column by its number
abbrev pub nodes_of : Shape → (ℕ → List Value) → List (ℤ × ℤ)
nodes_of bare given = []
nodes_of (field l children rest) given =
    (pos (length (given 0)), pos (column_nulls l (given 0)))
    ∷ (nodes_of children (child_values l (given 0)) ++ nodes_of rest (λ j. given (suc j)))

-- the buffers of each field and each field below it, in pre-order; `given` has the values of each
-- column
abbrev pub buffers_of : Shape → (ℕ → List Value) → List (List ℕ)
buffers_of bare given = []
buffers_of (field l children rest) given =
    column_buffers l (given 0) ++ (buffers_of children (child_values l (given 0))
    ++ buffers_of rest (λ j. given (suc j)))

-- a buffer, followed by zero bytes up to a multiple of 8 (Arrow Columnar Format, "Buffer Alignment
-- and Padding")
abbrev pub padded_buffer : List ℕ → List ℕ
padded_buffer b = b ++ replicate ((8 - length b % 8) % 8) 0

-- buffers one after another, each padded
abbrev pub padded_bytes : List (List ℕ) → List ℕ
padded_bytes [] = []
padded_bytes (b ∷ bs) = padded_buffer b ++ padded_bytes bs

-- the range of each buffer: where it begins, the first at `start`, and its length without padding
-- (Schema.fbs, Buffer)
abbrev pub ranges_from : ℕ → List (List ℕ) → List (ℤ × ℤ)
ranges_from start [] = []
ranges_from start (b ∷ bs) =
    (pos start, pos (length b)) ∷ ranges_from (start + length (padded_buffer b)) bs

-- the columns of rows
abbrev pub row_columns : List (List Value) → ℕ → List Value
row_columns rows j = cells j rows

-- the nodes that are written for these rows
abbrev pub row_nodes : List Field → List (List Value) → List (ℤ × ℤ)
row_nodes fields rows = nodes_of (shape_of fields) (row_columns rows)

-- the buffers of these rows; those of indices have the lengths of the written ones, but not their
-- bytes
abbrev pub row_buffers : List Field → List (List Value) → List (List ℕ)
row_buffers fields rows = buffers_of (shape_of fields) (row_columns rows)

-- the body of these rows, all buffers padded (Arrow Columnar Format, "RecordBatch message"); it has
-- the length of the written one, but not the bytes of its indices
abbrev pub rows_body : List Field → List (List Value) → List ℕ
rows_body fields rows = padded_bytes (row_buffers fields rows)

-- ---- the numbers of indices

-- the values with which a column is written: a column of indices is written as their numbers
-- (Arrow Columnar Format, "Dictionary-encoded Layout")
abbrev pub written_values : Numbering → Layout → List Value → List Value
written_values indices (l.Indices bits signed id) values = numbers_of (indices id) values
written_values indices l.Null values = values
written_values indices l.Bits values = values
written_values indices (l.Numbers bits signed) values = values
written_values indices (l.FixedBytes width) values = values
written_values indices (l.VariableBytes utf8) values = values
written_values indices l.Lists values = values
written_values indices l.Structs values = values
written_values indices (l.FixedLists size) values = values

-- the buffers of each field and each field below it; `indices` gives the index of each dictionary
-- value
abbrev pub buffers_with : Numbering → Shape → (ℕ → List Value) → List (List ℕ)
buffers_with indices bare given = []
buffers_with indices (field l children rest) given =
    column_buffers l (written_values indices l (given 0))
    ++ (buffers_with indices children (child_values l (given 0))
    ++ buffers_with indices rest (λ j. given (suc j)))

-- the buffers of these rows; `indices` gives the index of each dictionary value
abbrev pub row_buffers_with : Numbering → List Field → List (List Value) → List (List ℕ)
row_buffers_with indices fields rows = buffers_with indices (shape_of fields) (row_columns rows)

-- the body of these rows; `indices` gives the index of each dictionary value
abbrev pub body_with : Numbering → List Field → List (List Value) → List ℕ
body_with indices fields rows = padded_bytes (row_buffers_with indices fields rows)

-- the parts are exactly these nodes, buffers and body, so equal rows with equal indices give equal
-- bytes
pub record AreLaidOut (indices : Numbering) (fields : List Field) (rows : List (List Value))
    (parts : Parts) : Type 0 where
  pub nodes : parts.nodes ≡ row_nodes fields rows
  pub buffers : parts.buffers ≡ ranges_from 0 (row_buffers_with indices fields rows)
  pub body : parts.body.items ≡ body_with indices fields rows
