-- What is printed of a text that is refused.
use Rattle.std.specs.Prelude.{ℕ, List, ◌++◌, codes}
use Rattle.std.specs.Fmt.{decimal}
use Rattle.ipc_text_temporal.specs.declared.fault.TextFault.{TextFault}
use Rattle.ipc_text_temporal.specs.declared.fault.TextFault.TheVariants as x

-- the line of a refusal: its number and its name, and then the place, the record before the column,
-- as in "X4 BadField at record 2 column 0"; where memory ran out, it names none of these
abbrev pub text_fault_line : TextFault → List ℕ
text_fault_line x.NotFlat = codes "X1 NotFlat"
text_fault_line x.NoColumns = codes "X2 NoColumns"
text_fault_line (x.NoTextForm column) = codes "X3 NoTextForm at column " ++ decimal column
text_fault_line (x.BadField number column) =
    codes "X4 BadField at record " ++ decimal number ++ codes " column " ++ decimal column
text_fault_line (x.WrongFieldCount number) =
    codes "X5 WrongFieldCount at record " ++ decimal number
text_fault_line x.BadSchemaJson = codes "X6 BadSchemaJson"
text_fault_line x.OutOfMemory = codes "out of memory"
