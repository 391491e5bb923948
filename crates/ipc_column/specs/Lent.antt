-- What validation established about slots.
use Rattle.std.specs.Prelude.{◌≡◌, ℕ, ◌≤◌, ◌<◌, true, List, [], length, slice_get}
use Rattle.std.specs.Prelude.{slice_index_or}
use Rattle.ipc_model.specs.declared.fault.Fault.{Fault}
use Rattle.ipc_model.specs.declared.fault.Fault.TheVariants as fault
use Rattle.ipc_model.specs.declared.layout.Layout.{Layout}
use Rattle.ipc_model.specs.declared.value.Value.{Value}
use Rattle.ipc_column.specs.Columns.{Column, Columns, every}
use Rattle.ipc_column.specs.checks.Checks.{passes, have_slots, good, good_slot}
use Rattle.ipc_column.specs.checks.Checks.{has_bitmap, holds_values, holds_offsets, in_order}
use Rattle.ipc_column.specs.checks.Checks.{children_have_slots}
use Rattle.ipc_column.specs.Values.{Cells, values_from, value_of, row}

-- each column has the slots from `from` up to `to`, and its buffers have what its slots need
pub record AreSlots (cs : Columns) (from to : ℕ) : Type 0 where
  pub order : from ≤ to
  pub within : have_slots to cs ≡ true
  pub sound : (why : Fault) → every (passes why) cs ≡ true

-- the columns have these slots (`AreSlots`), and the texts in them are UTF-8
pub record HaveValues (cs : Columns) (from to : ℕ) : Type 0 where
  pub slots : AreSlots cs from to
  pub good : good fault.ValueNotUtf8 cs from to ≡ true

-- a column with these children has slot i, and their buffers have what their slots need
pub record IsSlot (c : Column) (children : Columns) (i : ℕ) : Type 0 where
  pub within : i < c.slots
  pub own : (why : Fault) → passes why c children ≡ true
  pub sound : (why : Fault) → every (passes why) children ≡ true

-- a column has slot i (`IsSlot`), and the texts in it and below it are UTF-8
pub record HasValue (c : Column) (children : Columns) (i : ℕ) : Type 0 where
  pub slot : IsSlot c children i
  pub good : good_slot fault.ValueNotUtf8 (good fault.ValueNotUtf8 children) c i ≡ true

-- the buffers of a column and of its children have what their slots need, and the texts of the
-- column are UTF-8
pub record HoldSlots (c : Column) (children : Columns) : Type 0 where
  pub bitmap : has_bitmap c.slots (length c.validity) ≡ true
  pub values : holds_values c.layout c.slots (length c.values) ≡ true
  pub offsets : holds_offsets c.layout c.slots (length c.offsets) ≡ true
  pub order : in_order c.layout c.slots c.offsets (length c.values) children ≡ true
  pub long : children_have_slots c.layout c.slots children ≡ true
  pub sound : (why : Fault) → every (passes why) children ≡ true
  pub good : (i : ℕ) → i < c.slots
      → good_slot fault.ValueNotUtf8 (good fault.ValueNotUtf8 children) c i ≡ true

-- the buffers of a column and of its children have what their slots need; texts may be other than
-- UTF-8
pub record AreFound (c : Column) (children : Columns) : Type 0 where
  pub bitmap : has_bitmap c.slots (length c.validity) ≡ true
  pub values : holds_values c.layout c.slots (length c.values) ≡ true
  pub offsets : holds_offsets c.layout c.slots (length c.offsets) ≡ true
  pub order : in_order c.layout c.slots c.offsets (length c.values) children ≡ true
  pub long : children_have_slots c.layout c.slots children ≡ true
  pub sound : (why : Fault) → every (passes why) children ≡ true

-- a column of these buffers with this dictionary; its null count is set to 0, as it is not read
abbrev pub column_of_buffers : Layout → ℕ → List ℕ → List ℕ → List ℕ → List Value → Column
column_of_buffers layout slots validity offsets values dictionary = record {
  layout = layout;
  slots = slots;
  nulls = 0;
  validity = validity;
  offsets = offsets;
  values = values;
  dictionary = dictionary;
}

-- a column with its null count set to 0
abbrev pub without_null_count : Column → Column
without_null_count c = column_of_buffers c.layout c.slots c.validity c.offsets c.values c.dictionary

-- the values of all slots of a column with these children
abbrev pub values_in : Column → Columns → Cells
values_in c children = values_from (value_of (row children) c) 0 c.slots

-- these are the values of one column of the rows, row by row
pub record AreOfColumn (rows : List (List Value)) (column : ℕ) (values : List Value) : Type 0 where
  pub size : length values ≡ length rows
  pub each : (i : ℕ) → i < length rows
      → slice_get (slice_index_or rows i []) column ≡ slice_get values i
