-- The dictionaries in force (Arrow Columnar Format, "Dictionary Messages").
use Rattle.std.specs.Prelude.{ℤ, Bool, true, false, List, []}
use Rattle.std.specs.Ordering.{int_cmp}
use Rattle.std.specs.Map.{lookup}
use Rattle.std.specs.Option.{unwrap_or}
use Rattle.std.specs.BTreeMap.{is_at}
use Rattle.ipc_model.specs.declared.layout.Layout.{Layout}
use Rattle.ipc_model.specs.declared.layout.Layout.TheVariants as l
use Rattle.ipc_model.specs.declared.value.Value.{Value}

-- the values of each dictionary, by its id
abbrev pub Dictionaries : Type 0
Dictionaries = List (ℤ × List Value)

-- the values of the dictionary with this id, or none if the dictionary is not in force
abbrev pub values_for : Dictionaries → ℤ → List Value
values_for m id = unwrap_or (lookup (is_at (int_cmp id)) m) []

-- the values of this layout are stored in one column: they are neither lists, structs nor indices
abbrev pub has_no_children : Layout → Bool
has_no_children l.Null = true
has_no_children l.Bits = true
has_no_children (l.Numbers bits signed) = true
has_no_children (l.FixedBytes width) = true
has_no_children (l.VariableBytes utf8) = true
has_no_children l.Lists = false
has_no_children (l.FixedLists size) = false
has_no_children l.Structs = false
has_no_children (l.Indices bits signed id) = false
