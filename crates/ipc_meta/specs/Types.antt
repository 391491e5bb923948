-- Which type a Field table states (Schema.fbs, union Type): a line for each type.
use Rattle.std.specs.Prelude.{◌≡◌, ⊤, ℤ, pos, Some, Ok}
use Rattle.ipc_scalar.specs.Bytes.{int16, int32}
use Rattle.ipc_flat.specs.Flat.{text_of}
use Rattle.ipc_flat.specs.Views.{TableView, table_from, scalar, field}
use Rattle.ipc_model.specs.Layouts.{time_bits}
use Rattle.ipc_model.specs.Ranges.{width}
use Rattle.ipc_model.specs.TypeCodes.{type_code}
use Rattle.ipc_model.specs.declared.schema.DateUnit.{DateUnit}
use Rattle.ipc_model.specs.declared.schema.DateUnit.TheVariants as date
use Rattle.ipc_model.specs.declared.schema.TimeUnit.{TimeUnit}
use Rattle.ipc_model.specs.declared.schema.TimeUnit.TheVariants as time
use Rattle.ipc_model.specs.declared.schema.DataType.{DataType}
use Rattle.ipc_model.specs.declared.schema.DataType.TheVariants as t
use Rattle.ipc_meta.specs.Tables.{flag_at, code_at}

-- Schema.fbs, enum DateUnit: the code of a unit
abbrev pub date_code : DateUnit → ℤ
date_code date.Day = pos 0
date_code date.Millisecond = pos 1

-- Schema.fbs, enum TimeUnit: the code of a unit
abbrev pub time_code : TimeUnit → ℤ
time_code time.Second = pos 0
time_code time.Millisecond = pos 1
time_code time.Microsecond = pos 2
time_code time.Nanosecond = pos 3

-- Schema.fbs, tables Null to Duration: what the table of a type has for this type. An absent unit
-- of a date, time or duration is MILLISECOND, the absent width of a time is 32 bits, and other
-- absent numbers are 0
abbrev pub StatesType : DataType → TableView → Type 0
StatesType t.Null v = ⊤
StatesType (t.Int bits signed) v =
    (scalar v 0 4 int32 (pos 0) ≡ Ok (pos (width bits))) × (flag_at v 1 ≡ Ok signed)
StatesType t.Binary v = ⊤
StatesType t.Utf8 v = ⊤
StatesType t.Bool v = ⊤
StatesType (t.Date unit) v = scalar v 0 2 int16 (pos 1) ≡ Ok (date_code unit)
StatesType (t.Time unit) v = (scalar v 0 2 int16 (pos 1) ≡ Ok (time_code unit))
    × (scalar v 1 4 int32 (pos 32) ≡ Ok (pos (width (time_bits unit))))
StatesType (t.Timestamp unit timezone) v = (scalar v 0 2 int16 (pos 0) ≡ Ok (time_code unit))
    × (field v 1 text_of ≡ Ok timezone)
StatesType t.List v = ⊤
StatesType t.Struct v = ⊤
StatesType (t.FixedSizeBinary n) v = scalar v 0 4 int32 (pos 0) ≡ Ok (pos n)
StatesType (t.FixedSizeList n) v = scalar v 0 4 int32 (pos 0) ≡ Ok (pos n)
StatesType (t.Duration unit) v = scalar v 0 2 int16 (pos 1) ≡ Ok (time_code unit)

-- Schema.fbs, table Field: the table states this type: 2 its code, 3 its table
abbrev pub TypeAt : DataType → TableView → Type 0
TypeAt κ f = (code_at f ≡ Ok (type_code κ))
    × ((v : TableView) × (field f 3 table_from ≡ Ok (Some v)) × StatesType κ v)
