-- How the slots of a field are laid out in its buffers (Arrow Columnar Format, "Physical Memory
-- Layout").
use Rattle.std.specs.Prelude.{ℕ, ◌/◌, Bool, true, false, Option, Some, None}
use Rattle.ipc_model.specs.declared.schema.IntBits.{IntBits}
use Rattle.ipc_model.specs.declared.schema.IntBits.TheVariants.{B32, B64}
use Rattle.ipc_model.specs.declared.schema.DateUnit.TheVariants.{Day, Millisecond}
use Rattle.ipc_model.specs.declared.schema.TimeUnit.{TimeUnit}
use Rattle.ipc_model.specs.declared.schema.TimeUnit.TheVariants as u
use Rattle.ipc_model.specs.declared.schema.DataType.{DataType}
use Rattle.ipc_model.specs.declared.schema.DataType.TheVariants as t
use Rattle.ipc_model.specs.declared.schema.Dictionary.{Dictionary}
use Rattle.ipc_model.specs.Ranges.{width}
use Rattle.ipc_model.specs.declared.layout.Layout.{Layout}
use Rattle.ipc_model.specs.declared.layout.Layout.TheVariants as l

-- how many bits a time of day has: 32 in seconds and milliseconds, 64 in microseconds and
-- nanoseconds (Schema.fbs, table Time)
abbrev pub time_bits : TimeUnit → IntBits
time_bits u.Second = B32
time_bits u.Millisecond = B32
time_bits u.Microsecond = B64
time_bits u.Nanosecond = B64

-- the layout of a type's slots. A date in days is a signed 32-bit number; a date in milliseconds, a
-- timestamp and a duration have 64 bits; a time has `time_bits` (Schema.fbs, Date, Time, Timestamp,
-- Duration)
abbrev pub type_layout : DataType → Layout
type_layout t.Null = l.Null
type_layout t.Bool = l.Bits
type_layout (t.Int bits signed) = l.Numbers bits signed
type_layout t.Binary = l.VariableBytes false
type_layout t.Utf8 = l.VariableBytes true
type_layout (t.FixedSizeBinary width) = l.FixedBytes width
type_layout (t.Date Day) = l.Numbers B32 true
type_layout (t.Date Millisecond) = l.Numbers B64 true
type_layout (t.Timestamp unit timezone) = l.Numbers B64 true
type_layout (t.Time unit) = l.Numbers (time_bits unit) true
type_layout (t.Duration unit) = l.Numbers B64 true
type_layout t.List = l.Lists
type_layout (t.FixedSizeList size) = l.FixedLists size
type_layout t.Struct = l.Structs

-- the layout of a field's slots: that of its type, or indices into its dictionary's values
-- (Schema.fbs, table Field, `dictionary`)
abbrev pub layout : DataType → Option Dictionary → Layout
layout kind None = type_layout kind
layout kind (Some d) = l.Indices d.index.bits d.index.signed d.id

-- how many buffers a field has without those of its children (Arrow Columnar Format, "Buffer
-- Listing for Each Layout")
abbrev pub own_buffers : Layout → ℕ
own_buffers l.Null = 0
own_buffers (l.VariableBytes utf8) = 3
own_buffers l.Bits = 2
own_buffers (l.Numbers bits signed) = 2
own_buffers (l.FixedBytes width) = 2
own_buffers (l.Indices bits signed id) = 2
own_buffers l.Lists = 2
own_buffers (l.FixedLists size) = 1
own_buffers l.Structs = 1

-- the layout has a validity bitmap, which may be absent in a column; only the null layout has none
-- (Arrow Columnar Format, "Null Layout")
abbrev pub has_validity : Layout → Bool
has_validity l.Null = false
has_validity l.Bits = true
has_validity (l.Numbers bits signed) = true
has_validity (l.FixedBytes width) = true
has_validity (l.VariableBytes utf8) = true
has_validity l.Lists = true
has_validity (l.FixedLists size) = true
has_validity l.Structs = true
has_validity (l.Indices bits signed id) = true

-- each slot holds a text
abbrev pub is_texts : Layout → Bool
is_texts (l.VariableBytes utf8) = utf8
is_texts l.Null = false
is_texts l.Bits = false
is_texts (l.Numbers bits signed) = false
is_texts (l.FixedBytes width) = false
is_texts l.Lists = false
is_texts (l.FixedLists size) = false
is_texts l.Structs = false
is_texts (l.Indices bits signed id) = false

-- each valid slot needs a check of its own: a text has to be UTF-8, and an index has to be that of
-- a value in its dictionary
abbrev pub needs_slot_checks : Layout → Bool
needs_slot_checks (l.VariableBytes utf8) = utf8
needs_slot_checks (l.Indices bits signed id) = true
needs_slot_checks l.Null = false
needs_slot_checks l.Bits = false
needs_slot_checks (l.Numbers bits signed) = false
needs_slot_checks (l.FixedBytes width) = false
needs_slot_checks l.Lists = false
needs_slot_checks (l.FixedLists size) = false
needs_slot_checks l.Structs = false

-- how many bytes a number of this width takes
abbrev pub number_bytes : IntBits → ℕ
number_bytes bits = width bits / 8
