-- The format strings of types (Arrow C data interface, "Data type description -- format strings").
use Rattle.std.specs.Prelude.{ℕ, List, [], ◌++◌, codes, decimal, Bool, true, false}
use Rattle.std.specs.Prelude.{Option, Some, None}
use Rattle.ipc_model.specs.declared.schema.DataType.{DataType}
use Rattle.ipc_model.specs.declared.schema.DataType.TheVariants as t
use Rattle.ipc_model.specs.declared.schema.DateUnit.TheVariants as d
use Rattle.ipc_model.specs.declared.schema.Dictionary.{Dictionary}
use Rattle.ipc_model.specs.declared.schema.IntBits.{IntBits}
use Rattle.ipc_model.specs.declared.schema.IntBits.TheVariants as i
use Rattle.ipc_model.specs.declared.schema.TimeUnit.{TimeUnit}
use Rattle.ipc_model.specs.declared.schema.TimeUnit.TheVariants as u

-- the letter of a type of whole numbers: a capital if they are unsigned
abbrev pub int_format : IntBits → Bool → List ℕ
int_format i.B8 true = codes "c"
int_format i.B8 false = codes "C"
int_format i.B16 true = codes "s"
int_format i.B16 false = codes "S"
int_format i.B32 true = codes "i"
int_format i.B32 false = codes "I"
int_format i.B64 true = codes "l"
int_format i.B64 false = codes "L"

-- the letter of a unit of time
abbrev pub unit_letter : TimeUnit → List ℕ
unit_letter u.Second = codes "s"
unit_letter u.Millisecond = codes "m"
unit_letter u.Microsecond = codes "u"
unit_letter u.Nanosecond = codes "n"

-- the text of a time zone, which is empty if there is none
abbrev pub zone_text : Option (List ℕ) → List ℕ
zone_text None = []
zone_text (Some zone) = zone

-- the format string of a type
abbrev pub type_format : DataType → List ℕ
type_format t.Null = codes "n"
type_format t.Bool = codes "b"
type_format (t.Int bits signed) = int_format bits signed
type_format t.Binary = codes "z"
type_format t.Utf8 = codes "u"
type_format (t.FixedSizeBinary size) = codes "w:" ++ decimal size
type_format (t.Date d.Day) = codes "tdD"
type_format (t.Date d.Millisecond) = codes "tdm"
type_format (t.Timestamp unit zone) = codes "ts" ++ unit_letter unit ++ codes ":" ++ zone_text zone
type_format (t.Time unit) = codes "tt" ++ unit_letter unit
type_format (t.Duration unit) = codes "tD" ++ unit_letter unit
type_format t.List = codes "+l"
type_format (t.FixedSizeList size) = codes "+w:" ++ decimal size
type_format t.Struct = codes "+s"

-- the format string of what a field's slots hold: of the indices if it has a dictionary
abbrev pub slots_format : DataType → Option Dictionary → List ℕ
slots_format kind None = type_format kind
slots_format kind (Some d) = int_format d.index.bits d.index.signed

-- the format string of the values of a field's dictionary, if it has one
abbrev pub values_format : DataType → Option Dictionary → Option (List ℕ)
values_format kind None = None
values_format kind (Some d) = Some (type_format kind)
