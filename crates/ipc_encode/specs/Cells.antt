-- The values of a column, and what each adds to the column's buffers (Arrow Columnar Format,
-- "Physical Memory Layout").
use Rattle.std.specs.Prelude.{ℕ, ◌+◌, Bool, true, false, not, List, [], ◌∷◌, ◌++◌, length}
use Rattle.std.specs.Prelude.{replicate, slice_index_or, if◌then◌else◌, ⊤, ◌==◌}
use Rattle.std.specs.Str.{IsUtf8}
use Rattle.std.specs.Int.{w64, cast_unsigned, bytes_low_first}
use Rattle.ipc_model.specs.declared.value.Value.{Value, out-Value}
use Rattle.ipc_model.specs.declared.value.Value.TheOpen.{Value-F}
use Rattle.ipc_model.specs.declared.value.Value.TheVariants as v
use Rattle.ipc_model.specs.Layouts.{number_bytes}
use Rattle.ipc_encode.specs.Pieces.{Flag, OffsetUnit, ValueSlot}
use Rattle.ipc_encode.specs.Pieces as p

-- the value that a row has in column j
abbrev pub cell : ℕ → List Value → Value
cell j row = slice_index_or row j v.Null

-- column j of the rows
abbrev pub cells : ℕ → List (List Value) → List Value
cells j [] = []
cells j (row ∷ rows) = cell j row ∷ cells j rows

-- the value is null
abbrev pub is_null : Value-F Value → Bool
is_null Value-F.Null = true
is_null _ = false

-- the value is true
abbrev pub is_true : Value-F Value → Bool
is_true (Value-F.Bool truth) = truth
is_true _ = false

-- a flag of a value: that it isn't null, or that it is true
abbrev pub is_set : Flag → Value → Bool
is_set p.Valid value = not (is_null (out-Value value))
is_set p.True value = is_true (out-Value value)

-- the flags of values
abbrev pub flags : Flag → List Value → List Bool
flags which [] = []
flags which (value ∷ values) = is_set which value ∷ flags which values

-- how many values are null
abbrev pub nulls : List Value → ℕ
nulls [] = 0
nulls (value ∷ values) = (if is_set p.Valid value then 0 else 1) + nulls values

-- the bits of a number, in two's complement, as an unsigned number; 0 for any other value
abbrev pub bits_in : Value-F Value → ℕ
bits_in (Value-F.Int number) = cast_unsigned w64 number
bits_in (Value-F.UInt number) = number
bits_in _ = 0

-- the bytes of a text or of binary; none for another value
abbrev pub bytes_in : Value-F Value → List ℕ
bytes_in (Value-F.Bytes bytes) = bytes
bytes_in (Value-F.Text text) = text
bytes_in _ = []

-- the bytes of a binary value of this width; `width` zeros for any other value
abbrev pub fixed_in : ℕ → Value-F Value → List ℕ
fixed_in width (Value-F.Bytes bytes) = if length bytes == width then bytes else replicate width 0
fixed_in width _ = replicate width 0

-- the items of a list; none of any other value
abbrev pub items_in : Value-F Value → List Value
items_in (Value-F.List items) = items
items_in _ = []

-- part j of a struct; null for any other value
abbrev pub part_in : ℕ → Value-F Value → Value
part_in j (Value-F.Struct parts) = cell j parts
part_in j _ = v.Null

-- the items of a list; none of any other value
abbrev pub items : Value → List Value
items value = items_in (out-Value value)

-- part j of a struct; null if there is none
abbrev pub struct_member : ℕ → Value → Value
struct_member j value = part_in j (out-Value value)

-- the items of each list, one after another
abbrev pub all_items : List Value → List Value
all_items [] = []
all_items (value ∷ values) = items value ++ all_items values

-- the items of a list of this size; `size` nulls for any other value
abbrev pub fixed_items_in : ℕ → Value-F Value → List Value
fixed_items_in size (Value-F.List items) =
    if length items == size then items else replicate size v.Null
fixed_items_in size _ = replicate size v.Null

-- the items of a list of this size; `size` nulls for any other value
abbrev pub fixed_items : ℕ → Value → List Value
fixed_items size value = fixed_items_in size (out-Value value)

-- the items of each list of a fixed size, one after another
abbrev pub all_fixed_items : ℕ → List Value → List Value
all_fixed_items size [] = []
all_fixed_items size (value ∷ values) = fixed_items size value ++ all_fixed_items size values

-- part j of each struct
abbrev pub all_parts : ℕ → List Value → List Value
all_parts j [] = []
all_parts j (value ∷ values) = struct_member j value ∷ all_parts j values

-- the bits of a number, in two's complement if it is signed; 0 for any other value
abbrev pub number_bits : Value → ℕ
number_bits value = bits_in (out-Value value)

-- the bytes of a binary value or a text; none of any other value
abbrev pub content : Value → List ℕ
content value = bytes_in (out-Value value)

-- the bytes of a binary value of this width; `width` zeros for any other value
abbrev pub fixed_bytes : ℕ → Value → List ℕ
fixed_bytes width value = fixed_in width (out-Value value)

-- the bytes of one slot: a number's low bytes, lowest first (Arrow Columnar Format, "Byte Order"),
-- the bytes of a fixed width, or those of any length
abbrev pub slot_bytes : ValueSlot → Value → List ℕ
slot_bytes (p.Number bits) value = bytes_low_first 0 (number_bytes bits) (number_bits value)
slot_bytes (p.Fixed width) value = fixed_bytes width value
slot_bytes p.Content value = content value

-- the slots of values, one after another
abbrev pub slots : ValueSlot → List Value → List ℕ
slots which [] = []
slots which (value ∷ values) = slot_bytes which value ++ slots which values

-- the length of a value's slot: in bytes, or in items of a list
abbrev pub extent : OffsetUnit → Value → ℕ
extent p.Bytes value = length (content value)
extent p.Items value = length (items value)

-- the places where the slots of values end, if the first begins at `start`, as 32-bit numbers
abbrev pub ends : OffsetUnit → ℕ → List Value → List ℕ
ends run start [] = []
ends run start (value ∷ values) = bytes_low_first 0 4 (start + extent run value)
    ++ ends run (start + extent run value) values

-- the offsets: 0, and the place where each slot ends (Arrow Columnar Format, "Variable-size Binary
-- Layout", "Variable-size List Layout")
abbrev pub offsets : OffsetUnit → List Value → List ℕ
offsets run values = bytes_low_first 0 4 0 ++ ends run 0 values

-- a text is UTF-8; any other value is accepted
abbrev pub SpellsOut : Value-F Value → Type 0
SpellsOut (Value-F.Text text) = IsUtf8 text
SpellsOut _ = ⊤

-- a text is UTF-8 (Schema.fbs, Utf8); any other value is accepted
abbrev pub HasUtf8 : Value → Type 0
HasUtf8 value = SpellsOut (out-Value value)
