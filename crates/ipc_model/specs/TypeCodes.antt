-- The codes of types (Schema.fbs, union Type).
use Rattle.std.specs.Prelude.{ℕ}
use Rattle.ipc_model.specs.declared.schema.DataType.{DataType}
use Rattle.ipc_model.specs.declared.schema.DataType.TheVariants as t

-- Schema.fbs, union Type: the code of a type
abbrev pub type_code : DataType → ℕ
type_code t.Null = 1
type_code (t.Int bits sign) = 2
type_code t.Binary = 4
type_code t.Utf8 = 5
type_code t.Bool = 6
type_code (t.Date unit) = 8
type_code (t.Time unit) = 9
type_code (t.Timestamp unit timezone) = 10
type_code (t.Duration unit) = 18
type_code t.List = 12
type_code t.Struct = 13
type_code (t.FixedSizeBinary n) = 15
type_code (t.FixedSizeList n) = 16
