-- The rules of the standard for a record batch's head and body (Arrow Columnar Format, "Physical
-- Memory Layout").
use Rattle.std.specs.Prelude.{◌≡◌, ℕ, ◌+◌, ◌*◌, ◌/◌, ◌<◌, ◌≤◌, ℤ, pos, ◌+ℤ◌, ◌≤ℤ◌, ◌<ℤ◌}
use Rattle.std.specs.Prelude.{negsuc, unsigned_abs, Bool, true, false, ◌&&◌, ◌||◌, not, ◌==◌, ⊤}
use Rattle.std.specs.Prelude.{List, [], ◌∷◌, length, if◌then◌else◌}
use Rattle.std.specs.List.{All}
use Rattle.std.specs.Str.{IsUtf8}
use Rattle.ipc_scalar.specs.Bytes.{clear, IsBelow}
use Rattle.ipc_model.specs.declared.schema.Field.{Field}
use Rattle.ipc_model.specs.declared.value.Value.{Value}
use Rattle.ipc_column.specs.Dictionaries.{Dictionaries}
use Rattle.ipc_meta.specs.declared.head.BatchHead.{BatchHead}
use Rattle.ipc_model.specs.declared.layout.Layout.{Layout}
use Rattle.ipc_model.specs.declared.layout.Layout.TheVariants as l
use Rattle.ipc_model.specs.Layouts.{number_bytes, has_validity, needs_slot_checks}
use Rattle.ipc_column.specs.Columns.{Column, Columns, none, column, Each, EachTop}
use Rattle.ipc_column.specs.Values.{offset, offset_position, between, is_valid, number_in}
use Rattle.ipc_column.specs.Shapes.{shape_of, node_count, buffer_count, field_columns}
use Rattle.ipc_model.specs.declared.limits.Limits.{Limits}

-- the head has one node for each field, children included (Message.fbs, RecordBatch, "nodes")
abbrev pub HasNodes : List Field → BatchHead → Type 0
HasNodes fields head = length head.nodes ≡ node_count (shape_of fields)

-- the head has each buffer that the layouts of the fields have (Message.fbs, RecordBatch,
-- "buffers")
abbrev pub HasBuffers : List Field → BatchHead → Type 0
HasBuffers fields head = length head.buffers ≡ buffer_count (shape_of fields)

-- a number of slots is from 0 up to the limit (Arrow Columnar Format, "Array lengths")
pub record IsSlotCount (limits : Limits) (count : ℤ) : Type 0 where
  pub from : pos 0 ≤ℤ count
  pub to : count ≤ℤ pos limits.slots

-- a node has a length, and a null count that is at most the length (Message.fbs, FieldNode)
pub record IsFieldNode (limits : Limits) (node : ℤ × ℤ) : Type 0 where
  pub slots : IsSlotCount limits node.0
  pub nulls_from : pos 0 ≤ℤ node.1
  pub nulls_to : node.1 ≤ℤ node.0

-- each child of n structs has at least n slots; the child of n lists of a fixed size has at least
-- size * n. Other children may have any number (Arrow Columnar Format, "Struct Layout", "Fixed-Size
-- List Layout")
abbrev pub HasLongChildren : Layout → ℕ → Columns → Type 0
HasLongChildren l.Structs n children = EachTop (λ c. n ≤ c.slots) children
HasLongChildren (l.FixedLists size) n children = EachTop (λ c. size * n ≤ c.slots) children
HasLongChildren l.Lists n children = ⊤
HasLongChildren l.Null n children = ⊤
HasLongChildren l.Bits n children = ⊤
HasLongChildren (l.Numbers bits signed) n children = ⊤
HasLongChildren (l.FixedBytes width) n children = ⊤
HasLongChildren (l.VariableBytes utf8) n children = ⊤
HasLongChildren (l.Indices bits signed id) n children = ⊤

-- the batch's length and its nodes are in their bounds; the columns are as long as the batch
-- (Message.fbs, RecordBatch, "length"), and the children of structs and of lists of a fixed size
-- are long enough
pub record HasLengths (limits : Limits) (m : Dictionaries) (fields : List Field)
    (head : BatchHead) (body : List ℕ) : Type 0 where
  pub batch : IsSlotCount limits head.length
  pub nodes : All (IsFieldNode limits) head.nodes
  pub columns : EachTop (λ c. pos c.slots ≡ head.length) (field_columns m fields head body)
  pub children : Each (λ c children. HasLongChildren c.layout c.slots children)
      (field_columns m fields head body)

-- a range begins at 0 or above and, unless it is empty, ends within `size` bytes (Schema.fbs,
-- Buffer)
pub record IsWithinBody (size : ℕ) (range : ℤ × ℤ) : Type 0 where
  pub offset : pos 0 ≤ℤ range.0
  pub bytes : pos 0 ≤ℤ range.1
  pub within : pos 0 <ℤ range.1 → (range.0 +ℤ range.1) ≤ℤ pos size

-- each buffer is inside the body
abbrev pub HasRanges : BatchHead → List ℕ → Type 0
HasRanges head body = All (IsWithinBody (length body)) head.buffers

-- this many bytes hold the values of n slots (Arrow Columnar Format, "Fixed-size Primitive Layout")
abbrev pub HoldValues : Layout → ℕ → ℕ → Type 0
HoldValues l.Bits n bytes = (n + 7) / 8 ≤ bytes
HoldValues (l.Numbers bits signed) n bytes = number_bytes bits * n ≤ bytes
HoldValues (l.FixedBytes width) n bytes = width * n ≤ bytes
HoldValues l.Null n bytes = ⊤
HoldValues (l.VariableBytes utf8) n bytes = ⊤
HoldValues l.Lists n bytes = ⊤
HoldValues (l.FixedLists size) n bytes = ⊤
HoldValues l.Structs n bytes = ⊤
HoldValues (l.Indices bits signed id) n bytes = number_bytes bits * n ≤ bytes

-- this many bytes hold the offsets of n slots: n + 1 offsets, or none if there are no slots
-- (Arrow Columnar Format, "Variable-size Binary Layout", "Variable-size List Layout")
abbrev pub HoldOffsets : Layout → ℕ → ℕ → Type 0
HoldOffsets (l.VariableBytes utf8) n bytes = 0 < n → 4 * (n + 1) ≤ bytes
HoldOffsets l.Lists n bytes = 0 < n → 4 * (n + 1) ≤ bytes
HoldOffsets (l.FixedLists size) n bytes = ⊤
HoldOffsets l.Structs n bytes = ⊤
HoldOffsets l.Null n bytes = ⊤
HoldOffsets l.Bits n bytes = ⊤
HoldOffsets (l.Numbers bits signed) n bytes = ⊤
HoldOffsets (l.FixedBytes width) n bytes = ⊤
HoldOffsets (l.Indices bits signed id) n bytes = ⊤

-- the validity bitmap, if there is one, has a bit for each slot (Arrow Columnar Format, "Validity
-- bitmaps")
abbrev pub HasWholeBitmap : Column → Type 0
HasWholeBitmap c = 0 < length c.validity → (c.slots + 7) / 8 ≤ length c.validity

-- the buffers have the bytes that the slots need: a bit for each slot if there is a bitmap, the
-- values, and the offsets
pub record IsLongEnough (c : Column) : Type 0 where
  pub bitmap : HasWholeBitmap c
  pub values : HoldValues c.layout c.slots (length c.values)
  pub offsets : HoldOffsets c.layout c.slots (length c.offsets)

-- the buffers of each column are long enough, at every level
abbrev pub HasBytes : Dictionaries → List Field → BatchHead → List ℕ → Type 0
HasBytes m fields head body = Each (λ c children. IsLongEnough c) (field_columns m fields head body)

-- the null count is the number of clear bits in the bitmap, and 0 without a bitmap
-- (Arrow Columnar Format, "Null count"); a column of the null layout may have any
pub record CountsNulls (c : Column) : Type 0 where
  pub with_bitmap : has_validity c.layout ≡ true → 0 < length c.validity
      → c.nulls ≡ clear c.validity c.slots
  pub without_bitmap : has_validity c.layout ≡ true → length c.validity ≡ 0 → c.nulls ≡ 0

-- the null count of each column is right, at every level
abbrev pub HasNullCounts : Dictionaries → List Field → BatchHead → List ℕ → Type 0
HasNullCounts m fields head body =
    Each (λ c children. CountsNulls c) (field_columns m fields head body)

-- the offsets of n slots begin at 0 or above, do not decrease, and end within a bound
-- (Arrow Columnar Format, "Variable-size Binary Layout", "Variable-size List Layout")
pub record AreOffsets (offsets : List ℕ) (n : ℕ) (Within : ℤ → Type 0) : Type 0 where
  pub from : pos 0 ≤ℤ offset offsets 0
  pub order : (i : ℕ) → i < n → offset offsets i ≤ℤ offset offsets (i + 1)
  pub to : Within (offset offsets n)

-- the offsets of a column's slots are in order: those of texts and bytes end within `size` bytes,
-- those of lists within the slots of the child
abbrev pub HasOffsets : Layout → ℕ → List ℕ → ℕ → Columns → Type 0
HasOffsets (l.VariableBytes utf8) n offsets size children =
    0 < n → AreOffsets offsets n (λ end. end ≤ℤ pos size)
HasOffsets l.Lists n offsets size children =
    0 < n → AreOffsets offsets n (λ end. EachTop (λ c. end ≤ℤ pos c.slots) children)
HasOffsets (l.FixedLists width) n offsets size children = ⊤
HasOffsets l.Structs n offsets size children = ⊤
HasOffsets l.Null n offsets size children = ⊤
HasOffsets l.Bits n offsets size children = ⊤
HasOffsets (l.Numbers bits signed) n offsets size children = ⊤
HasOffsets (l.FixedBytes width) n offsets size children = ⊤
HasOffsets (l.Indices bits signed id) n offsets size children = ⊤

-- the offsets of each column are in order, within its values or its child, at every level
abbrev pub HasOrder : Dictionaries → List Field → BatchHead → List ℕ → Type 0
HasOrder m fields head body =
    Each (λ c children. HasOffsets c.layout c.slots c.offsets (length c.values) children)
    (field_columns m fields head body)

-- every text in slot i, or in the children's slots that it owns, is UTF-8 (Schema.fbs, Utf8);
-- `below` states it of the children's slots. A list owns the slots between its offsets, a list of a
-- fixed size its `size` slots, and a struct the slot of equal number in each child
abbrev pub TextsAreUtf8 : Layout → (ℕ → Type 0) → List ℕ → List ℕ → ℕ → Type 0
TextsAreUtf8 (l.VariableBytes true) below offsets values i = IsUtf8 (between offsets values i)
TextsAreUtf8 (l.VariableBytes utf8) below offsets values i = ⊤
TextsAreUtf8 l.Lists below offsets values i = (j : ℕ) → offset_position offsets i ≤ j
    → j < offset_position offsets (i + 1) → below j
TextsAreUtf8 (l.FixedLists size) below offsets values i = (j : ℕ) → size * i ≤ j
    → j < size * (i + 1) → below j
TextsAreUtf8 l.Structs below offsets values i = below i
TextsAreUtf8 l.Null below offsets values i = ⊤
TextsAreUtf8 l.Bits below offsets values i = ⊤
TextsAreUtf8 (l.Numbers bits signed) below offsets values i = ⊤
TextsAreUtf8 (l.FixedBytes width) below offsets values i = ⊤
TextsAreUtf8 (l.Indices bits signed id) below offsets values i = ⊤

-- in each column every text in slot i, or in the children's slots that it owns, is UTF-8, if the
-- slot is valid; a null slot and what is below it are not read
abbrev pub HasUtf8Texts : Columns → ℕ → Type 0
HasUtf8Texts none i = ⊤
HasUtf8Texts (column c children rest) i = (is_valid c.validity i ≡ true
    → TextsAreUtf8 c.layout (HasUtf8Texts children) c.offsets c.values i) × HasUtf8Texts rest i

-- the texts of each row are UTF-8
abbrev pub HasTexts : Dictionaries → List Field → BatchHead → List ℕ → Type 0
HasTexts m fields head body = (i : ℕ) → i < unsigned_abs head.length
    → HasUtf8Texts (field_columns m fields head body) i

-- every index in slot i, or in the children's slots that it owns (as in `TextsAreUtf8`), is that of
-- one of the values of its dictionary; `below` states it of the children's slots
abbrev pub IndicesHaveValues : Layout → List Value → (ℕ → Type 0) → List ℕ → List ℕ → ℕ → Type 0
IndicesHaveValues (l.Indices bits signed id) dictionary below offsets values i =
    IsBelow (length dictionary) (number_in bits signed values i)
IndicesHaveValues l.Lists dictionary below offsets values i = (j : ℕ)
    → offset_position offsets i ≤ j → j < offset_position offsets (i + 1) → below j
IndicesHaveValues (l.FixedLists size) dictionary below offsets values i = (j : ℕ) → size * i ≤ j
    → j < size * (i + 1) → below j
IndicesHaveValues l.Structs dictionary below offsets values i = below i
IndicesHaveValues l.Null dictionary below offsets values i = ⊤
IndicesHaveValues l.Bits dictionary below offsets values i = ⊤
IndicesHaveValues (l.Numbers bits signed) dictionary below offsets values i = ⊤
IndicesHaveValues (l.FixedBytes width) dictionary below offsets values i = ⊤
IndicesHaveValues (l.VariableBytes utf8) dictionary below offsets values i = ⊤

-- in each column every index in slot i, or in the children's slots that it owns, is that of a value
-- of its dictionary, if the slot is valid; a null slot and what is below it are not read
abbrev pub HoldsIndices : Columns → ℕ → Type 0
HoldsIndices none i = ⊤
HoldsIndices (column c children rest) i = (is_valid c.validity i ≡ true
    → IndicesHaveValues c.layout c.dictionary (HoldsIndices children) c.offsets c.values i)
    × HoldsIndices rest i

-- the indices of each row are those of values in force
abbrev pub HasIndices : Dictionaries → List Field → BatchHead → List ℕ → Type 0
HasIndices m fields head body = (i : ℕ) → i < unsigned_abs head.length
    → HoldsIndices (field_columns m fields head body) i

-- one of the columns, or a column below it, has texts or indices
abbrev pub have_slot_checks : Columns → Bool
have_slot_checks none = false
have_slot_checks (column c children rest) =
    needs_slot_checks c.layout || (have_slot_checks children || have_slot_checks rest)

-- validation may visit the slots of a column one by one: it has texts or indices, or it has a
-- validity bitmap and there are texts or indices below it
abbrev pub has_slot_visits : Column → Columns → Bool
has_slot_visits c children =
    needs_slot_checks c.layout || (not (length c.validity == 0) && have_slot_checks children)

-- how many slots validation may visit one by one
abbrev pub visits_in : Columns → ℕ
visits_in none = 0
visits_in (column c children rest) = (if has_slot_visits c children then c.slots else 0)
    + visits_in children + visits_in rest

-- the number, or 0 if it is negative
abbrev pub count_or_zero : ℤ → ℕ
count_or_zero (pos n) = n
count_or_zero (negsuc n) = 0

-- how many slots all nodes have together
abbrev pub total_slots : List (ℤ × ℤ) → ℕ
total_slots [] = 0
total_slots (node ∷ nodes) = count_or_zero node.0 + total_slots nodes
