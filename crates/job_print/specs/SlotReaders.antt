-- The kinds of layouts that are read by code of their own (Arrow Columnar Format, "Physical Memory
-- Layout").
use Rattle.std.specs.Prelude.{◌≡◌, true, ⊤}
use Rattle.ipc_model.specs.declared.layout.Layout.{Layout}
use Rattle.ipc_model.specs.declared.layout.Layout.TheVariants as l
use Rattle.ipc_model.specs.declared.schema.IntBits.TheVariants.{B32, B64}
use Rattle.job_print.specs.declared.column_tree.SlotReader.{SlotReader}
use Rattle.job_print.specs.declared.column_tree.SlotReader.TheVariants as kind

-- the layout is of this kind; nothing is stated for `Others`
abbrev pub IsReaderOf : SlotReader → Layout → Type 0
IsReaderOf kind.Int64 layout = layout ≡ l.Numbers B64 true
IsReaderOf kind.Int32 layout = layout ≡ l.Numbers B32 true
IsReaderOf kind.Bool layout = layout ≡ l.Bits
IsReaderOf kind.Utf8 layout = layout ≡ l.VariableBytes true
IsReaderOf (kind.Bytes width) layout = layout ≡ l.FixedBytes width
IsReaderOf kind.Others layout = ⊤
