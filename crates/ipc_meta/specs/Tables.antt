-- What single tables of the metadata state (Schema.fbs), with the default for each field that is
-- absent.
use Rattle.std.specs.Prelude.{ℕ, ◌==◌, ◌||◌, Bool, true, nat_lt, ℤ, pos, negsuc, List, [], Option}
use Rattle.std.specs.Prelude.{None, Some, Result, Ok, Err, if◌then◌else◌}
use Rattle.std.specs.Ordering.{int_eq}
use Rattle.ipc_scalar.specs.Bytes.{byte, int16, int32, int64}
use Rattle.ipc_flat.specs.Flat.{text_of}
use Rattle.ipc_flat.specs.Views.{TableView, Elements, table_from, scalar, field, elements_from}
use Rattle.ipc_flat.specs.Faulty.{◌>>=◌}
use Rattle.ipc_model.specs.Layouts.{time_bits}
use Rattle.ipc_model.specs.Ranges.{width}
use Rattle.ipc_model.specs.declared.fault.Fault.{Fault}
use Rattle.ipc_model.specs.declared.fault.Fault.TheVariants.{UnsupportedType, BadType, BadIndexType}
use Rattle.ipc_model.specs.declared.schema.IntBits.{IntBits}
use Rattle.ipc_model.specs.declared.schema.IntBits.TheVariants.{B8, B16, B32, B64}
use Rattle.ipc_model.specs.declared.schema.DateUnit.TheVariants as date
use Rattle.ipc_model.specs.declared.schema.TimeUnit.{TimeUnit}
use Rattle.ipc_model.specs.declared.schema.TimeUnit.TheVariants as time
use Rattle.ipc_model.specs.declared.schema.DataType.{DataType}
use Rattle.ipc_model.specs.declared.schema.DataType.TheVariants as t
use Rattle.ipc_model.specs.declared.schema.IndexType.{IndexType}
use Rattle.ipc_model.specs.declared.schema.Dictionary.{Dictionary}
use Rattle.ipc_meta.specs.FlatFaults.{map_fault}

-- the value, or d if it is absent
abbrev pub or_else : {X : Type 0} → X → Option X → X
or_else d None = d
or_else d (Some x) = x

-- the text in field k; an absent one is empty (FlatBuffers binary format, "Strings and Vectors")
unfoldable pub text_at : TableView → ℕ → Result (List ℕ) Fault
text_at t k = map_fault (field t k text_of) >>= λ o. Ok (or_else [] o)

-- the truth value in field k: an absent byte and 0 are false, any other is true (FlatBuffers binary
-- format, "Tables")
unfoldable pub flag_at : TableView → ℕ → Result Bool Fault
flag_at t k = map_fault (scalar t k 1 byte 0) >>= λ n. Ok (nat_lt 0 n)

-- the vector, or an empty one if it is absent
abbrev pub no_elements : TableView → Option Elements → Elements
no_elements t None = record { bytes = t.bytes; at = 0; len = 0 }
no_elements t (Some es) = es

-- the vector of offsets of tables in field k; an absent one is empty
unfoldable pub vector_at : TableView → ℕ → Result Elements Fault
vector_at t k = map_fault (field t k (elements_from 4)) >>= λ o. Ok (no_elements t o)

-- the width of an integer, which is 8, 16, 32 or 64 bits (Schema.fbs, table Int, bitWidth)
abbrev pub bits_of : ℤ → Option IntBits
bits_of (pos n) = if n == 8 then Some B8 else
    (if n == 16 then Some B16 else
    (if n == 32 then Some B32 else (if n == 64 then Some B64 else None)))
bits_of (negsuc n) = None

-- the value, or the fault e if there is none
abbrev pub ok_or : {X : Type 0} → Fault → Option X → Result X Fault
ok_or e None = Err e
ok_or e (Some x) = Ok x

-- f applied to the value; a fault is passed on
abbrev pub map_ok : {X Y : Type 0} → (X → Y) → Result X Fault → Result Y Fault
map_ok f (Ok x) = Ok (f x)
map_ok f (Err e) = Err e

-- Schema.fbs, table Int: the integer type that the table states: 0 bitWidth, 1 is_signed; any other
-- width is the fault e
abbrev pub int_at : Fault → TableView → Result IndexType Fault
int_at e v = map_fault (scalar v 0 4 int32 (pos 0)) >>= λ w. ok_or e (bits_of w) >>= λ b.
    flag_at v 1
    >>= λ s. Ok (record { bits = b; signed = s })

-- Schema.fbs, table FixedSizeBinary, 0 byteWidth: the width in bytes, which is not negative
abbrev pub fixed_at : ℤ → Result DataType Fault
fixed_at (pos n) = Ok (t.FixedSizeBinary n)
fixed_at (negsuc n) = Err BadType

-- Schema.fbs, table FixedSizeList, 0 listSize: the number of values, which is not negative
abbrev pub fixed_list_at : ℤ → Result DataType Fault
fixed_list_at (pos n) = Ok (t.FixedSizeList n)
fixed_list_at (negsuc n) = Err BadType

-- Schema.fbs, table Date, 0 unit: the date type of this unit, by enum DateUnit, where DAY is 0 and
-- MILLISECOND 1
abbrev pub date_at : ℤ → Result DataType Fault
date_at (pos n) = if n == 0 then Ok (t.Date date.Day) else
    (if n == 1 then Ok (t.Date date.Millisecond) else Err BadType)
date_at (negsuc n) = Err BadType

-- Schema.fbs, enum TimeUnit: the unit with this number: SECOND 0, MILLISECOND 1, MICROSECOND 2,
-- NANOSECOND 3
abbrev pub unit_of : ℤ → Option TimeUnit
unit_of (pos n) = if n == 0 then Some time.Second else
    (if n == 1 then Some time.Millisecond else
    (if n == 2 then Some time.Microsecond else (if n == 3 then Some time.Nanosecond else None)))
unit_of (negsuc n) = None

-- Schema.fbs, table Timestamp: the type that the table states: 0 unit, 1 timezone; the timezone may
-- be absent, and a present one may be empty
abbrev pub timestamp_at : TableView → Result DataType Fault
timestamp_at v = map_fault (scalar v 0 2 int16 (pos 0)) >>= λ u. ok_or BadType (unit_of u)
    >>= λ u. map_fault (field v 1 text_of) >>= λ z. Ok (t.Timestamp u z)

-- a time of this unit, if `bits` is the width that its unit needs (Schema.fbs, table Time, 1
-- bitWidth)
abbrev pub time_in : TimeUnit → ℤ → Result DataType Fault
time_in unit bits =
    if int_eq bits (pos (width (time_bits unit))) then Ok (t.Time unit) else Err BadType

-- Schema.fbs, table Time: the type that the table states: 0 unit, which is MILLISECOND if absent, 1
-- bitWidth, which is 32 if absent
abbrev pub time_at : TableView → Result DataType Fault
time_at v = map_fault (scalar v 0 2 int16 (pos 1)) >>= λ u. ok_or BadType (unit_of u)
    >>= λ u. map_fault (scalar v 1 4 int32 (pos 32)) >>= time_in u

-- Schema.fbs, table Duration: the type that the table states: 0 unit, which is MILLISECOND if
-- absent
abbrev pub duration_at : TableView → Result DataType Fault
duration_at v = map_fault (scalar v 0 2 int16 (pos 1)) >>= λ u. ok_or BadType (unit_of u)
    >>= λ u. Ok (t.Duration u)

-- Schema.fbs, union Type: the type with this code and table: Null 1, Int 2, Binary 4, Utf8 5, Bool
-- 6, Date 8 (its unit is MILLISECOND if absent), Time 9, Timestamp 10, List 12, Struct_ 13,
-- FixedSizeBinary 15, FixedSizeList 16, Duration 18; other codes are not read. The codes are tested
-- one after another, as the code does; `StatesType` says the same of one type at a time
unfoldable pub type_of : ℕ → TableView → Result DataType Fault
type_of code v =
    if code == 1 then Ok t.Null
    else (if code == 2 then (int_at BadType v >>= λ i. Ok (t.Int i.bits i.signed))
    else (if code == 4 then Ok t.Binary
    else (if code == 5 then Ok t.Utf8
    else (if code == 6 then Ok t.Bool
    else (if code == 8 then (map_fault (scalar v 0 2 int16 (pos 1)) >>= date_at)
    else (if code == 9 then time_at v
    else (if code == 10 then timestamp_at v
    else (if code == 12 then Ok t.List
    else (if code == 13 then Ok t.Struct
    else (if code == 15 then (map_fault (scalar v 0 4 int32 (pos 0)) >>= fixed_at)
    else (if code == 16 then (map_fault (scalar v 0 4 int32 (pos 0)) >>= fixed_list_at)
    else (if code == 18 then duration_at v
    else Err (UnsupportedType code)))))))))))))

-- the type of a field with this code and type table; without a table the fault is BadType
abbrev pub type_in : ℕ → Option TableView → Result DataType Fault
type_in code None = Err BadType
type_in code (Some v) = type_of code v

-- Schema.fbs, table Field: the code of the field's type: 2 the type's code in union Type
unfoldable pub code_at : TableView → Result ℕ Fault
code_at f = map_fault (scalar f 2 1 byte 0)

-- Schema.fbs, union Type: the code is that of a type that `type_of` reads
unfoldable pub is_type_code : ℕ → Bool
is_type_code code =
    code == 1 || (code == 2 || (code == 4
    || (code == 5 || (code == 6
    || (code == 8 || (code == 9 || (code == 10
    || (code == 12 || (code == 13 || (code == 15
    || (code == 16 || code == 18)))))))))))

-- the result, if the code is one that `type_of` reads; else the fault UnsupportedType
abbrev pub when_type : {X : Type 0} → ℕ → Result X Fault → Result X Fault
when_type code r = if is_type_code code then r else Err (UnsupportedType code)

-- Schema.fbs, table Field: the field's type: 2 the type's code, 3 the type's table, which is read
-- only if the code is a known type's. It is a type exactly if `TypeAt` holds for that type
unfoldable pub type_at : TableView → Result DataType Fault
type_at f = code_at f >>= λ code. when_type code (map_fault (field f 3 table_from) >>= type_in code)

-- Schema.fbs, table DictionaryEncoding, indexType: an Int table; if it is absent, indices are
-- signed and have 32 bits
abbrev pub index_type_at : Option TableView → Result IndexType Fault
index_type_at None = Ok (record { bits = B32; signed = true })
index_type_at (Some v) = int_at BadIndexType v

-- Schema.fbs, table DictionaryEncoding: the type of the indices: 1 indexType
abbrev pub index_at : TableView → Result IndexType Fault
index_at d = map_fault (field d 1 table_from) >>= index_type_at

-- Schema.fbs, table DictionaryEncoding: the dictionary that the table states, if there is one: 0
-- id, 1 indexType, 2 isOrdered
abbrev pub dictionary_in : Option TableView → Result (Option Dictionary) Fault
dictionary_in None = Ok None
dictionary_in (Some d) =
    map_fault (scalar d 0 8 int64 (pos 0)) >>= λ id. index_at d >>= λ index. flag_at d 2
    >>= λ ordered.
    Ok (Some (record { id = id; index = index; ordered = ordered }))

-- Schema.fbs, table Field: the field's dictionary: 4 dictionary, absent if the values are not
-- dictionary-encoded. It is a dictionary, or none, exactly if `IsEncodedAs` holds for it
unfoldable pub dictionary_at : TableView → Result (Option Dictionary) Fault
dictionary_at f = map_fault (field f 4 table_from) >>= dictionary_in
