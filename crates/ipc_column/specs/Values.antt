-- The values of slots, and the rows of columns (Arrow Columnar Format, "Physical Memory Layout").
use Rattle.std.specs.Prelude.{ℕ, zero, suc, ◌+◌, ◌-◌, ◌*◌, nat_lt, ℤ, pos, negsuc, unsigned_abs}
use Rattle.std.specs.Prelude.{Bool, true, false, ◌==◌, Option, Some, None, if◌then◌else◌}
use Rattle.std.specs.Prelude.{List, [], ◌∷◌, ◌++◌, length, slice_range, slice_index_or}
use Rattle.std.specs.Int.{w8, cast_signed}
use Rattle.ipc_scalar.specs.Bytes.{bit, num, byte, int16, int32, int64}
use Rattle.ipc_model.specs.declared.schema.IntBits.{IntBits}
use Rattle.ipc_model.specs.declared.schema.IntBits.TheVariants.{B8, B16, B32, B64}
use Rattle.ipc_model.specs.declared.value.Value.{Value}
use Rattle.ipc_model.specs.declared.value.Value.TheVariants as v
use Rattle.ipc_model.specs.declared.layout.Layout.{Layout}
use Rattle.ipc_model.specs.declared.layout.Layout.TheVariants as l
use Rattle.ipc_model.specs.Layouts.{number_bytes}
use Rattle.ipc_column.specs.Columns.{Column, Columns, none, column}

-- a slot is valid if its bit is set, or if there is no bitmap (Arrow Columnar Format, "Validity
-- bitmaps")
abbrev pub is_valid : List ℕ → ℕ → Bool
is_valid validity i = if length validity == 0 then true else bit validity i

-- the signed number at place p
abbrev pub signed_at : IntBits → List ℕ → ℕ → ℤ
signed_at B8 b p = cast_signed w8 (byte b p)
signed_at B16 b p = int16 b p
signed_at B32 b p = int32 b p
signed_at B64 b p = int64 b p

-- the number in slot i, of this width and sign
abbrev pub number_in : IntBits → Bool → List ℕ → ℕ → ℤ
number_in bits true values i = signed_at bits values (number_bytes bits * i)
number_in bits false values i = pos (num values (number_bytes bits * i) (number_bytes bits))

-- the number as an index below n, if it is one
abbrev pub place_below : ℕ → ℤ → Option ℕ
place_below n (pos i) = if nat_lt i n then Some i else None
place_below n (negsuc i) = None

-- the value at this index, or null if there is none
abbrev pub value_at : List Value → ℤ → Value
value_at dictionary (pos i) = slice_index_or dictionary i v.Null
value_at dictionary (negsuc i) = v.Null

-- offset i
abbrev pub offset : List ℕ → ℕ → ℤ
offset offsets i = int32 offsets (4 * i)

-- the place to which offset i points, if it is not negative
abbrev pub offset_position : List ℕ → ℕ → ℕ
offset_position offsets i = unsigned_abs (offset offsets i)

-- the bytes from offset i to offset i + 1 (Arrow Columnar Format, "Variable-size Binary Layout")
abbrev pub between : List ℕ → List ℕ → ℕ → List ℕ
between offsets values i = slice_range values (offset_position offsets i)
    (offset_position offsets (i + 1))

-- Arrow Columnar Format, "Variable-size List Layout", "Fixed-Size List Layout", "Struct Layout":
-- the first slot of the children that belongs to slot i. For a list it is offset i, for a list of a
-- fixed size i times the size, for a struct i
abbrev pub child_slot : Layout → List ℕ → ℕ → ℕ
child_slot l.Lists offsets i = offset_position offsets i
child_slot (l.FixedLists size) offsets i = size * i
child_slot _ offsets i = i

-- the value of a slot consists of values of the children
abbrev pub is_nested : Layout → Bool
is_nested l.Lists = true
is_nested (l.FixedLists size) = true
is_nested l.Structs = true
is_nested _ = false

-- the values of a list or of a struct
abbrev pub Cells : Type 0
Cells = List Value

-- the first of the values, or null if there are none
abbrev pub first_of : List Value → Value
first_of [] = v.Null
first_of (value ∷ values) = value

-- the values of n slots from slot i on
abbrev pub values_from : (ℕ → Value) → ℕ → ℕ → List Value
values_from value i zero = []
values_from value i (suc n) = value i ∷ values_from value (i + 1) n

-- the value in valid slot i, given `below`, the values of the children's slots
-- (Arrow Columnar Format, "Null Layout", "Fixed-size Primitive Layout", "Variable-size Binary
-- Layout"). A list has those of its slots in the one child, a struct that of slot i in each child;
-- an index denotes the dictionary's value (Arrow Columnar Format, "Dictionary-encoded Layout")
abbrev pub own_value : Layout → List Value → (ℕ → List Value) → List ℕ → List ℕ → ℕ → Value
own_value l.Null dictionary below offsets values i = v.Null
own_value l.Bits dictionary below offsets values i = v.Bool (bit values i)
own_value (l.Numbers bits true) dictionary below offsets values i =
    v.Int (signed_at bits values (number_bytes bits * i))
own_value (l.Numbers bits false) dictionary below offsets values i =
    v.UInt (num values (number_bytes bits * i) (number_bytes bits))
own_value (l.FixedBytes width) dictionary below offsets values i =
    v.Bytes (slice_range values (width * i) (width * i + width))
own_value (l.VariableBytes true) dictionary below offsets values i =
    v.Text (between offsets values i)
own_value (l.VariableBytes false) dictionary below offsets values i =
    v.Bytes (between offsets values i)
own_value l.Lists dictionary below offsets values i =
    v.List (values_from (λ j. first_of (below j)) (offset_position offsets i)
    (offset_position offsets (i + 1) - offset_position offsets i))
own_value (l.FixedLists size) dictionary below offsets values i =
    v.List (values_from (λ j. first_of (below j)) (size * i) size)
own_value l.Structs dictionary below offsets values i = v.Struct (below i)
own_value (l.Indices bits signed id) dictionary below offsets values i =
    value_at dictionary (number_in bits signed values i)

-- the value of slot i
abbrev pub value_of : (ℕ → List Value) → Column → ℕ → Value
value_of below c i =
    if is_valid c.validity i then own_value c.layout c.dictionary below c.offsets c.values i
    else v.Null

-- the value of slot i of each column; nothing below a null slot is read
abbrev pub row : Columns → ℕ → List Value
row none i = []
row (column c children rest) i = value_of (row children) c i ∷ row rest i

-- the value of slot i in the first column
abbrev pub first_at : Columns → ℕ → Value
first_at cs i = first_of (row cs i)

-- the first n rows
abbrev pub rows_of : Columns → ℕ → List (List Value)
rows_of cs zero = []
rows_of cs (suc n) = rows_of cs n ++ (row cs n ∷ [])
