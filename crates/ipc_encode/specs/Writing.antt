-- What is written for columns (Arrow Columnar Format, "Physical Memory Layout").
use Rattle.std.specs.Prelude.{ℕ, List, ⊤}
use Rattle.std.specs.List.{AllByRecursion}
use Rattle.ipc_model.specs.declared.value.Value.{Value}
use Rattle.ipc_model.specs.declared.layout.Layout.{Layout}
use Rattle.ipc_model.specs.declared.layout.Layout.TheVariants as l
use Rattle.ipc_column.specs.Shapes.{Shape}
use Rattle.ipc_encode.specs.Cells.{HasUtf8}
use Rattle.ipc_encode.specs.Buffers.{EachColumn}

-- the texts in a column of variable length are UTF-8; nothing is stated for other layouts
abbrev pub AreStored : Layout → List Value → Type 0
AreStored (l.VariableBytes utf8) values = AllByRecursion HasUtf8 values
AreStored l.Null values = ⊤
AreStored l.Bits values = ⊤
AreStored (l.Numbers bits signed) values = ⊤
AreStored (l.FixedBytes width) values = ⊤
AreStored l.Lists values = ⊤
AreStored l.Structs values = ⊤
AreStored (l.FixedLists size) values = ⊤
AreStored (l.Indices bits signed id) values = ⊤

-- the texts of each column and each column below it are UTF-8 (`AreStored`)
abbrev pub AllStored : Shape → (ℕ → List Value) → Type 0
AllStored = EachColumn AreStored
