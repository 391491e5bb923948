-- The buffers of one column as it is built (Arrow Columnar Format, "Buffer Listing for Each
-- Layout").
use Rattle.std.specs.Prelude.{ℕ, ◌+◌, ◌-◌, ◌*◌, ◌/◌, ◌%◌, ◌<◌, ◌==◌, List, [], ◌∷◌, length}
use Rattle.std.specs.Prelude.{if◌then◌else◌}
use Rattle.ipc_model.specs.Limits.{max_data}
use Rattle.ipc_model.specs.declared.value.Value.{Value}
use Rattle.ipc_model.specs.declared.layout.Layout.{Layout}
use Rattle.ipc_model.specs.declared.layout.Layout.TheVariants as l
use Rattle.ipc_model.specs.Layouts.{number_bytes}
use Rattle.ipc_encode.specs.Cells.{nulls, content, items}
use Rattle.ipc_encode.specs.Buffers.{validity, piece_bytes}

-- the bytes of a validity bitmap, or none if no value is null
abbrev pub validity_bytes : List Value → List ℕ
validity_bytes values = piece_bytes (validity (nulls values)) values

-- the bytes of the validity bitmap in a column of this layout
abbrev pub validity_in : Layout → List Value → List ℕ
validity_in l.Null values = []
validity_in (l.Indices bits signed id) values = validity_bytes values
validity_in l.Bits values = validity_bytes values
validity_in (l.Numbers bits signed) values = validity_bytes values
validity_in (l.FixedBytes width) values = validity_bytes values
validity_in (l.VariableBytes utf8) values = validity_bytes values
validity_in l.Lists values = validity_bytes values
validity_in l.Structs values = validity_bytes values
validity_in (l.FixedLists size) values = validity_bytes values

-- ---- lengths

-- how much one value adds to the data of a column: bytes, or items of a list
abbrev pub value_len : Layout → Value → ℕ
value_len (l.Numbers bits signed) value = number_bytes bits
value_len (l.FixedBytes width) value = width
value_len (l.VariableBytes utf8) value = length (content value)
value_len l.Lists value = length (items value)
value_len l.Null value = 0
value_len l.Bits value = 0
value_len l.Structs value = 0
value_len (l.FixedLists size) value = 0
value_len (l.Indices bits signed id) value = number_bytes bits

-- how much data the values of a column are: bytes, or items of lists; bits and slots without data
-- count as 0
abbrev pub data_in : Layout → List Value → ℕ
data_in layout [] = 0
data_in layout (value ∷ values) = value_len layout value + data_in layout values

-- how many bytes n packed bits take
abbrev pub bits_length : ℕ → ℕ
bits_length n = (n + 7) / 8

-- how many bytes a buffer of n bytes takes with its padding
abbrev pub padded_length : ℕ → ℕ
padded_length n = n + (8 - n % 8) % 8

-- how many bytes the validity bitmap of `count` slots takes; `null_count` of them are null
abbrev pub validity_length : Layout → ℕ → ℕ → ℕ
validity_length l.Null count null_count = 0
validity_length _ count null_count = if null_count == 0 then 0 else bits_length count

-- how many bytes the offsets of `count` slots take
abbrev pub offsets_length : Layout → ℕ → ℕ
offsets_length (l.VariableBytes utf8) count = 4 * (count + 1)
offsets_length l.Lists count = 4 * (count + 1)
offsets_length _ count = 0

-- how many bytes a column's values take: `count` slots with this amount of data
abbrev pub values_length : Layout → ℕ → ℕ → ℕ
values_length (l.Numbers bits signed) count amount = amount
values_length (l.FixedBytes width) count amount = amount
values_length (l.VariableBytes utf8) count amount = amount
values_length l.Bits count amount = bits_length count
values_length l.Null count amount = 0
values_length l.Lists count amount = 0
values_length l.Structs count amount = 0
values_length (l.FixedLists size) count amount = 0
values_length (l.Indices bits signed id) count amount = amount

-- this amount of data is more than 32-bit offsets can address
abbrev pub ExceedsOffsets : Layout → ℕ → Type 0
ExceedsOffsets (l.VariableBytes utf8) amount = max_data < amount
ExceedsOffsets l.Lists amount = max_data < amount
ExceedsOffsets _ amount = ⊥
