-- Single columns without children, over a body that batches share (Arrow Columnar Format,
-- "Dictionary Messages").
use Rattle.std.specs.Borrow.{Bor}
use Rattle.std.specs.Prelude.{◌≡◌, true, Option, Some, None, [], ⊤}
use Rattle.ipc_column.specs.declared.dictionary.Leaf.{Leaf}
use Rattle.ipc_column.specs.Columns.{Column, none}
use Rattle.ipc_column.specs.Dictionaries.{has_no_children}
use Rattle.ipc_column.specs.Lent.{HoldSlots, column_of_buffers, values_in}
use Rattle.ipc_column.specs.Spans.{span_bytes}
use Rattle.ipc_column.specs.Values.{Cells}

-- the column of a leaf, as byte lists
abbrev pub leaf_column : Leaf → Column
leaf_column f = column_of_buffers f.layout f.slots (span_bytes f.body.value.items f.validity)
    (span_bytes f.body.value.items f.offsets) (span_bytes f.body.value.items f.values) []

-- the values of a leaf, or none if there is no leaf
abbrev pub leaf_values : Option Leaf → Cells
leaf_values None = []
leaf_values (Some f) = values_in (leaf_column f) none

-- the values of a dictionary, or none if there is no dictionary
abbrev pub values_or_none : Option (Bor Cells) → Cells
values_or_none None = []
values_or_none (Some values) = values.now

-- a leaf's buffers have the bytes that its slots need, and its column stores its values itself
pub record IsLeafColumn (f : Leaf) : Type 0 where
  pub alone : has_no_children f.layout ≡ true
  pub holds : HoldSlots (leaf_column f) none

-- `IsLeafColumn` holds, if there is a leaf
abbrev pub HoldLeaf : Option Leaf → Type 0
HoldLeaf None = ⊤
HoldLeaf (Some f) = IsLeafColumn f
