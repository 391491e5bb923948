-- Slots of columns that a batch lends, and the values in them.
use Rattle.std.specs.Prelude.{ℕ, ◌-◌, ◌<◌, ◌≤◌, List, slice_index_or}
use Rattle.ipc_model.specs.declared.value.Value.{Value}
use Rattle.ipc_model.specs.declared.value.Value.TheVariants as v
use Rattle.ipc_column.specs.Columns.{EachTop}
use Rattle.ipc_column.specs.Nested.{Nested, child_columns, slot_values}
use Rattle.ipc_column.specs.Values.{first_of, values_from, row}

-- the value in a slot of a column
abbrev pub slot_value : Nested → ℕ → Value
slot_value n i = slice_index_or (slot_values n) i v.Null

-- the values of a list, which are in the first child, from slot `from` up to `to`
abbrev pub list_values : Nested → ℕ → ℕ → List Value
list_values n from to = values_from (λ j. first_of (row (child_columns n) j)) from (to - from)

-- the values in `count` slots of a column, from slot `from` on
abbrev pub values_between : Nested → ℕ → ℕ → List Value
values_between n from count = values_from (slot_value n) from count

-- the children have the slots of a list
pub record HasListSlots (n : Nested) (from to : ℕ) : Type 0 where
  pub order : from ≤ to
  pub inside : EachTop (λ c. to ≤ c.slots) (child_columns n)

-- the children have the slot of a struct
abbrev pub HaveSlot : Nested → ℕ → Type 0
HaveSlot n slot = EachTop (λ c. slot < c.slots) (child_columns n)
