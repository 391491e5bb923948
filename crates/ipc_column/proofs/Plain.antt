-- What slots show by how they lie.
use Rattle.std.proofs.Common.{◌≡◌, ℕ, zero, suc, ◌+◌, ◌-◌, ◌*◌, ◌<◌, ◌≤◌, Bool, true, false, List}
use Rattle.std.proofs.Common.{length, length-drop, drop, get_or, arith, cond}
use Rattle.std.specs.Prelude.{slice_range}
use Rattle.std.specs.List.{AllByRecursion}
use Rattle.std.specs.Int.{w8, w16, w32, w64, cast_signed}
use Rattle.std.proofs.lemmas.List.{length-take-le}
use Rattle.std.proofs.lemmas.Int.{ints}
use Rattle.ipc_scalar.specs.Bytes.{num}
use Rattle.ipc_model.specs.Ranges.{width, IsSignedWithin, IsUnsignedWithin}
use Rattle.ipc_model.specs.declared.schema.IntBits.{IntBits}
use Rattle.ipc_model.specs.declared.schema.IntBits.TheVariants as b
use Rattle.ipc_model.specs.declared.layout.Layout.{Layout}
use Rattle.ipc_model.specs.declared.layout.Layout.TheVariants as l
use Rattle.ipc_model.specs.declared.value.Value.{Value}
use Rattle.ipc_model.specs.declared.value.Value.TheVariants as v
use Rattle.ipc_model.specs.Layouts.{number_bytes}
use Rattle.ipc_column.specs.Columns.{Column, Columns}
use Rattle.ipc_column.specs.checks.Checks.{holds_values}
use Rattle.ipc_column.specs.Lent.{values_in}
use Rattle.ipc_column.specs.Nested.{child_columns}
use Rattle.ipc_column.specs.checks.Plain.{IsShownBy}
use Rattle.ipc_column.specs.Values.{is_valid, values_from, own_value, row, signed_at, value_of}
use Rattle.ipc_column.proofs.lending.Widths.{slot_inside}

-- ---- numbers

-- bytes in a list
abbrev pub AreBytes : List ℕ → Type 0
AreBytes bs = (k : ℕ) → get_or bs k 0 < 256

-- the number in some bytes
few_1 : (bs : List ℕ) (p : ℕ) → AreBytes bs → num bs p 1 < 256
unfolding num
few_1 bs p h = omega (arith, h p)

few_2 : (bs : List ℕ) (p : ℕ) → AreBytes bs → num bs p 2 < 65536
unfolding num
few_2 bs p h = omega (arith, h p, h (suc p))

few_4 : (bs : List ℕ) (p : ℕ) → AreBytes bs → num bs p 4 < 4294967296
unfolding num
few_4 bs p h = omega (arith, h p, h (suc p), h (suc (suc p)), h (suc (suc (suc p))))

few_8 : (bs : List ℕ) (p : ℕ) → AreBytes bs → num bs p 8 < 18446744073709551616
unfolding num
few_8 bs p h =
    let q = suc (suc (suc (suc p))) in
    omega (arith, h p, h (suc p), h (suc (suc p)), h (suc (suc (suc p))), h q, h (suc q), h (suc (suc q)), h (suc (suc (suc q))))

signed_8 : (n : ℕ) → n < 256 → IsSignedWithin 8 (cast_signed w8 n)
signed_8 n h = (omega (arith, ints, h), omega (arith, ints, h))

signed_16 : (n : ℕ) → n < 65536 → IsSignedWithin 16 (cast_signed w16 n)
signed_16 n h = (omega (arith, ints, h), omega (arith, ints, h))

signed_32 : (n : ℕ) → n < 4294967296 → IsSignedWithin 32 (cast_signed w32 n)
signed_32 n h = (omega (arith, ints, h), omega (arith, ints, h))

signed_64 : (n : ℕ) → n < 18446744073709551616 → IsSignedWithin 64 (cast_signed w64 n)
signed_64 n h = (omega (arith, ints, h), omega (arith, ints, h))

signed_within : (bits : IntBits) (bs : List ℕ) (p : ℕ) → AreBytes bs → IsSignedWithin (width bits) (signed_at bits bs p)
signed_within b.B8 bs p h = signed_8 (num bs p 1) (few_1 bs p h)
signed_within b.B16 bs p h = signed_16 (num bs p 2) (few_2 bs p h)
signed_within b.B32 bs p h = signed_32 (num bs p 4) (few_4 bs p h)
signed_within b.B64 bs p h = signed_64 (num bs p 8) (few_8 bs p h)

unsigned_within : (bits : IntBits) (bs : List ℕ) (p : ℕ) → AreBytes bs → IsUnsignedWithin (width bits) (num bs p (number_bytes bits))
unsigned_within b.B8 bs p h = few_1 bs p h
unsigned_within b.B16 bs p h = few_2 bs p h
unsigned_within b.B32 bs p h = few_4 bs p h
unsigned_within b.B64 bs p h = few_8 bs p h

-- ---- values of slots

-- the bytes from one place up to another
range_size : (bs : List ℕ) (f t : ℕ) → t ≤ length bs → length (slice_range bs f t) ≡ t - f
range_size bs f t h = length-take-le (t - f) (drop f bs) (omega (arith, length-drop f bs))

-- the bytes of a fixed width
fixed_size : (w n i : ℕ) (bs : List ℕ) → holds_values (l.FixedBytes w) n (length bs) ≡ true → i < n
    → length (slice_range bs (w * i) (w * i + w)) ≡ w
fixed_size w n i bs h m =
    let room = slot_inside w n i (length bs) h m in
    let size = range_size bs (w * i) (w * i + w) (omega (arith, room)) in
    omega (arith, size)

text_or_bytes : (utf8 : Bool) (d : List Value) (child_columns : ℕ → List Value) (o w : List ℕ) (i : ℕ)
    → IsShownBy (l.VariableBytes utf8) (own_value (l.VariableBytes utf8) d child_columns o w i)
text_or_bytes true d child_columns o w i = tt
text_or_bytes false d child_columns o w i = tt

-- what a valid slot holds is of its layout
own_shown : (layout : Layout) (d : List Value) (child_columns : ℕ → List Value) (o w : List ℕ) (n i : ℕ) → AreBytes w
    → holds_values layout n (length w) ≡ true → i < n → IsShownBy layout (own_value layout d child_columns o w i)
own_shown l.Null d child_columns o w n i bytes h m = tt
own_shown l.Bits d child_columns o w n i bytes h m = tt
own_shown (l.Numbers bits true) d child_columns o w n i bytes h m = signed_within bits w (number_bytes bits * i) bytes
own_shown (l.Numbers bits false) d child_columns o w n i bytes h m = unsigned_within bits w (number_bytes bits * i) bytes
own_shown (l.FixedBytes size) d child_columns o w n i bytes h m = fixed_size size n i w h m
own_shown (l.VariableBytes utf8) d child_columns o w n i bytes h m = text_or_bytes utf8 d child_columns o w i
own_shown l.Lists d child_columns o w n i bytes h m = tt
own_shown (l.FixedLists size) d child_columns o w n i bytes h m = tt
own_shown l.Structs d child_columns o w n i bytes h m = tt
own_shown (l.Indices bits signed id) d child_columns o w n i bytes h m = tt

-- null is shown by slots of any layout
pub null_shown : (layout : Layout) → IsShownBy layout v.Null
null_shown l.Null = tt
null_shown l.Bits = tt
null_shown (l.Numbers bits signed) = tt
null_shown (l.FixedBytes size) = tt
null_shown (l.VariableBytes utf8) = tt
null_shown l.Lists = tt
null_shown (l.FixedLists size) = tt
null_shown l.Structs = tt
null_shown (l.Indices bits signed id) = tt

-- a fact of each of several slots
pub items_each : (P : Value → Type 0) (f : ℕ → Value) (i n : ℕ) → ((k : ℕ) → i ≤ k → k < i + n → P (f k))
    → AllByRecursion P (values_from f i n)
items_each P f i zero h = tt
items_each P f i (suc n) h =
    (h i (omega arith) (omega arith), items_each P f (i + 1) n (λ k from to. h k (omega (arith, from)) (omega (arith, to))))

-- what slots show is of their layout
pub all_shown : (c : Column) (children : Columns) → AreBytes c.values → holds_values c.layout c.slots (length c.values) ≡ true
    → AllByRecursion (IsShownBy c.layout) (values_in c children)
all_shown c children bytes h =
    items_each (IsShownBy c.layout) (value_of (row children) c) 0 c.slots
    (λ k from to. either k (omega (arith, to)) (is_valid c.validity k))
  where
    either : (k : ℕ) → k < c.slots → (valid : Bool)
        → IsShownBy c.layout (cond valid (own_value c.layout c.dictionary (row children) c.offsets c.values k) v.Null)
    either k m true = own_shown c.layout c.dictionary (row children) c.offsets c.values c.slots k bytes h m
    either k m false = null_shown c.layout
