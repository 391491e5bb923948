-- The words for what the table of a type states (Schema.fbs, union Type).
use Rattle.std.specs.Prelude.{ℕ, ℤ, pos, ◌==◌, List, [], ◌++◌, codes, Option, None, Some, Result}
use Rattle.std.specs.Prelude.{Ok, Err, if◌then◌else◌}
use Rattle.std.specs.Fmt.{signed_decimal}
use Rattle.ipc_scalar.specs.Bytes.{int16, int32}
use Rattle.ipc_flat.specs.Views.{TableView, field, scalar, table_from}
use Rattle.ipc_flat.specs.declared.fault.FlatFault.{FlatFault}
use Rattle.ipc_model.specs.declared.fault.Fault.{Fault}

-- the words for a number with this name; none for one that is ill-formed
abbrev pub number_words : List ℕ → Result ℤ FlatFault → List ℕ
number_words name (Ok n) = codes ", " ++ name ++ codes " " ++ signed_decimal n
number_words name (Err fault) = []

-- the words for the width, the size or the unit in the table of the type with this code, by their
-- names in Schema.fbs; none for a type without them
abbrev pub table_words : ℕ → TableView → List ℕ
table_words code v =
    if code == 2 then number_words (codes "bitWidth") (scalar v 0 4 int32 (pos 0))
    else (if code == 8 then number_words (codes "unit") (scalar v 0 2 int16 (pos 1))
    else (if code == 9 then number_words (codes "unit") (scalar v 0 2 int16 (pos 1))
    ++ number_words (codes "bitWidth") (scalar v 1 4 int32 (pos 32))
    else (if code == 10 then number_words (codes "unit") (scalar v 0 2 int16 (pos 0))
    else (if code == 15 then number_words (codes "byteWidth") (scalar v 0 4 int32 (pos 0))
    else (if code == 16 then number_words (codes "listSize") (scalar v 0 4 int32 (pos 0))
    else (if code == 18 then number_words (codes "unit") (scalar v 0 2 int16 (pos 1))
    else []))))))

-- the words for the table of the type with this code, if there is one
abbrev pub found_words : ℕ → Result (Option TableView) FlatFault → List ℕ
found_words code (Ok (Some v)) = table_words code v
found_words code (Ok None) = codes ", without a table"
found_words code (Err fault) = []

-- the words for the table of a field's type, which has the code in field 2 and the table in field 3
-- of the Field table
abbrev pub type_table_words : Result ℕ Fault → TableView → List ℕ
type_table_words (Ok code) t = found_words code (field t 3 table_from)
type_table_words (Err fault) t = []
