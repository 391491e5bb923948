-- Columns whose values fit a field because of their layout alone (Schema.fbs, union Type).
use Rattle.std.specs.Prelude.{Bool, true, false}
use Rattle.ipc_model.specs.declared.schema.DataType.{DataType}
use Rattle.ipc_model.specs.declared.schema.DataType.TheVariants as t
use Rattle.ipc_model.specs.declared.schema.DateUnit.TheVariants.{Day, Millisecond}

-- every value that a slot of the type's layout can have is one of the type. This is not so for a
-- date in milliseconds (a whole day) or a time (below 24 hours); the null type and types with
-- children are not plain
abbrev pub layout_implies_type : DataType → Bool
layout_implies_type t.Bool = true
layout_implies_type (t.Int bits signed) = true
layout_implies_type t.Binary = true
layout_implies_type t.Utf8 = true
layout_implies_type (t.FixedSizeBinary size) = true
layout_implies_type (t.Date Day) = true
layout_implies_type (t.Date Millisecond) = false
layout_implies_type (t.Timestamp unit timezone) = true
layout_implies_type (t.Duration unit) = true
layout_implies_type (t.Time unit) = false
layout_implies_type t.Null = false
layout_implies_type t.List = false
layout_implies_type (t.FixedSizeList size) = false
layout_implies_type t.Struct = false
