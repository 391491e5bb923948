-- The content of slots by themselves (Arrow Columnar Format, "Physical Memory Layout").
use Rattle.std.specs.Borrow.{Bor}
use Rattle.std.specs.Prelude.{◌≡◌, ℕ, ◌+◌, ◌-◌, ◌<◌, ◌≤◌, Bool, true, false, List, map, take, ⊤}
use Rattle.std.specs.Prelude.{Option, Some, None}
use Rattle.std.specs.Str.{is_utf8}
use Rattle.ipc_model.specs.declared.value.Value.{Value}
use Rattle.ipc_model.specs.declared.value.Value.TheVariants as v
use Rattle.ipc_column.specs.declared.ranges.ColumnRanges.{ColumnRanges}
use Rattle.ipc_column.specs.declared.ranges.ColumnRanges.TheViews.{out-ColumnRanges}
use Rattle.ipc_column.specs.declared.slot_view.Slot.{Slot}
use Rattle.ipc_column.specs.declared.slot_view.Slot.TheVariants as slot
use Rattle.ipc_column.specs.Columns.{Columns, EachTop}
use Rattle.ipc_column.specs.Lent.{HaveValues, without_null_count}
use Rattle.ipc_column.specs.Nested.{Nested}
use Rattle.ipc_column.specs.Values.{values_from, first_of}
use Rattle.ipc_column.specs.Views.{column_of}

-- the value of slot i, given `below`, the values of the children's slots: a list has those of its
-- slots in the first child, a struct that of slot i in each child
abbrev pub value_in_slot : (ℕ → List Value) → ℕ → Slot → Value
value_in_slot below i slot.Null = v.Null
value_in_slot below i (slot.Bool truth) = v.Bool truth
value_in_slot below i (slot.Int number) = v.Int number
value_in_slot below i (slot.UInt number) = v.UInt number
value_in_slot below i (slot.Bytes bytes) = v.Bytes bytes.now
value_in_slot below i (slot.Text bytes) = v.Text bytes.now
value_in_slot below i (slot.List from to) = v.List (values_from (λ j. first_of (below j)) from
    (to - from))
value_in_slot below i slot.Struct = v.Struct (below i)

-- the text in the first `len` bytes of a buffer, or null if there is none
abbrev pub text_prefix : Option (Bor (List ℕ) × ℕ) → Value
text_prefix None = v.Null
text_prefix (Some (bytes, len)) = v.Text (take len bytes.now)

-- the value is null
abbrev pub is_null : Value → Bool
is_null v.Null = true
is_null _ = false

-- each of the children has the slots that slot i refers to
abbrev pub HasChildSlots : Columns → ℕ → Slot → Type 0
HasChildSlots children i (slot.List from to) = (from ≤ to) × EachTop (λ c. to ≤ c.slots) children
HasChildSlots children i slot.Struct = EachTop (λ c. i < c.slots) children
HasChildSlots children i slot.Null = ⊤
HasChildSlots children i (slot.Bool truth) = ⊤
HasChildSlots children i (slot.Int number) = ⊤
HasChildSlots children i (slot.UInt number) = ⊤
HasChildSlots children i (slot.Bytes bytes) = ⊤
HasChildSlots children i (slot.Text bytes) = ⊤

-- what slot i refers to has values: its text is UTF-8, and the children's slots have values
-- (`HaveValues`)
abbrev pub RefersToValues : Columns → ℕ → Slot → Type 0
RefersToValues children i (slot.List from to) = HaveValues children from to
RefersToValues children i slot.Struct = HaveValues children i (i + 1)
RefersToValues children i slot.Null = ⊤
RefersToValues children i (slot.Bool truth) = ⊤
RefersToValues children i (slot.Int number) = ⊤
RefersToValues children i (slot.UInt number) = ⊤
RefersToValues children i (slot.Bytes bytes) = ⊤
RefersToValues children i (slot.Text bytes) = is_utf8 bytes.now ≡ true

-- the slot refers to no slot of a child, and its text is UTF-8
abbrev pub IsLeafSlot : Slot → Type 0
IsLeafSlot (slot.List from to) = ⊥
IsLeafSlot slot.Struct = ⊥
IsLeafSlot slot.Null = ⊤
IsLeafSlot (slot.Bool truth) = ⊤
IsLeafSlot (slot.Int number) = ⊤
IsLeafSlot (slot.UInt number) = ⊤
IsLeafSlot (slot.Bytes bytes) = ⊤
IsLeafSlot (slot.Text bytes) = is_utf8 bytes.now ≡ true

-- the column of a part, over the body, with its children
abbrev pub nested : List ℕ → ColumnRanges → Nested
nested body p = record {
  column = without_null_count (column_of body p);
  body = body;
  children = (out-ColumnRanges p).children.items;
}

-- each child's column over the body, with its own children
abbrev pub nested_in : Nested → List Nested
nested_in n = map (nested n.body) n.children
