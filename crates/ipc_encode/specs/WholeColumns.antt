-- Columns that were read and have the layout of a builder's (Arrow Columnar Format, "Physical
-- Memory Layout").
use Rattle.std.specs.Prelude.{◌≡◌, ℕ, suc, ◌+◌, ◌*◌, ◌<◌, ◌≤◌, ◌==◌, Bool, true, false, List, []}
use Rattle.std.specs.Prelude.{◌∷◌, length, replicate, slice_get, take, Some, if◌then◌else◌, ⊤}
use Rattle.ipc_scalar.specs.Bytes.{num}
use Rattle.ipc_model.specs.Limits.{max_data}
use Rattle.ipc_model.specs.declared.layout.Layout.{Layout}
use Rattle.ipc_model.specs.declared.layout.Layout.TheVariants as l
use Rattle.ipc_model.specs.declared.value.Value.{Value}
use Rattle.ipc_model.specs.Layouts.{number_bytes}
use Rattle.ipc_column.specs.Columns.{Column}
use Rattle.ipc_column.specs.Nested.{Nested, only_column, slot_values}
use Rattle.ipc_column.specs.checks.Rules.{HasUtf8Texts}
use Rattle.ipc_column.specs.Shapes.{Shape, bare, field}
use Rattle.ipc_column.specs.Slots.{nested_in}
use Rattle.ipc_encode.specs.Buffers.{child_values, data_buffers}
use Rattle.ipc_encode.specs.Cells.{all_items, nulls, offsets}
use Rattle.ipc_encode.specs.Columns.{bits_length, data_in, validity_bytes}
use Rattle.ipc_encode.specs.Limits.{HasExcessData}
use Rattle.ipc_encode.specs.Pieces.{Items}

-- the slots of a column of this layout can be taken all at once: they are no indices, whose values
-- are stored elsewhere
abbrev pub is_taken_whole : Layout → Bool
is_taken_whole l.Null = true
is_taken_whole l.Bits = true
is_taken_whole (l.Numbers bits signed) = true
is_taken_whole (l.FixedBytes width) = true
is_taken_whole (l.VariableBytes utf8) = true
is_taken_whole l.Lists = true
is_taken_whole l.Structs = true
is_taken_whole (l.FixedLists size) = true
is_taken_whole (l.Indices bits signed id) = false

-- lists have all slots of their child, one list after another from the first slot on, so their
-- offsets lie as they are written (Arrow Columnar Format, "Variable-size List Layout")
pub record UseAllItems (view : Nested) : Type 0 where
  pub offsets_are : 0 < length (slot_values view)
      → take (4 * (length (slot_values view) + 1)) view.column.offsets
      ≡ offsets Items (slot_values view)
  pub few : data_in l.Lists (slot_values view) ≤ max_data
  pub slots : (child : Nested) → slice_get (nested_in view) 0 ≡ Some child
      → all_items (slot_values view) ≡ slot_values child
  pub texts : (child : Nested) → slice_get (nested_in view) 0 ≡ Some child
      → ((i : ℕ) → i < length (slot_values view) → HasUtf8Texts (only_column view) i)
      → (i : ℕ) → i < length (slot_values child) → HasUtf8Texts (only_column child) i

-- the offsets of so many slots, as they are laid out; one zero if there are none
abbrev pub lent_offsets : List ℕ → ℕ → List ℕ
lent_offsets offsets count = if count == 0 then replicate 4 0 else take (4 * (count + 1)) offsets

-- where the data of so many slots ends
abbrev pub last_offset : List ℕ → ℕ → ℕ
last_offset offsets count = if count == 0 then 0 else num offsets (4 * count) 4

-- the buffers of so many slots that follow the validity bitmap, as they are laid out
-- (Arrow Columnar Format, "Buffer Listing for Each Layout")
abbrev pub lent_buffers : Layout → Column → ℕ → List (List ℕ)
lent_buffers l.Bits column count = take (bits_length count) column.values ∷ []
lent_buffers (l.Numbers bits signed) column count =
    take (number_bytes bits * count) column.values ∷ []
lent_buffers (l.FixedBytes width) column count = take (width * count) column.values ∷ []
lent_buffers (l.VariableBytes utf8) column count = lent_offsets column.offsets count
    ∷ take (last_offset column.offsets count) column.values ∷ []
lent_buffers l.Lists column count = lent_offsets column.offsets count ∷ []
lent_buffers l.Null column count = []
lent_buffers l.Structs column count = []
lent_buffers (l.FixedLists size) column count = []
lent_buffers (l.Indices bits signed id) column count = []

-- the validity bitmap of a column begins with the one that is written for its values, if one is
abbrev pub HasWrittenValidity : Nested → Type 0
HasWrittenValidity view = 0 < nulls (slot_values view)
    → take (bits_length (length (slot_values view))) view.column.validity
    ≡ validity_bytes (slot_values view)

-- the buffers of a column begin with those that are written for its values, and its layout can be
-- taken all at once
pub record IsCanonical (view : Nested) : Type 0 where
  pub whole : is_taken_whole view.column.layout ≡ true
  pub lists : view.column.layout ≡ l.Lists → UseAllItems view
  pub validity : ¬ (view.column.layout ≡ l.Null) → HasWrittenValidity view
  pub lent : lent_buffers view.column.layout view.column (length (slot_values view))
      ≡ data_buffers view.column.layout (slot_values view)
  pub short : ¬ HasExcessData view.column.layout (slot_values view)

-- the column has this layout, and its buffers are those that are written (`IsCanonical`); its slots
-- have exactly these values, and the texts in them are UTF-8
pub record IsLaidOutAs (layout : Layout) (view : Nested) (values : List Value) : Type 0 where
  pub laid : view.column.layout ≡ layout
  pub canonical : IsCanonical view
  pub texts : (i : ℕ) → i < length (slot_values view) → HasUtf8Texts (only_column view) i
  pub shows : slot_values view ≡ values

-- columns of this shape, each with exactly the values that are given for its number, at every
-- level. The slots of each child are those of the parent's items in order, and no others
abbrev pub AreFullColumns : Shape → List Nested → (ℕ → List Value) → Type 0
AreFullColumns bare [] given = ⊤
AreFullColumns bare (view ∷ views) given = ⊥
AreFullColumns (field layout children rest) [] given = ⊥
AreFullColumns (field layout children rest) (view ∷ views) given =
    (IsLaidOutAs layout view (given 0)
    × AreFullColumns children (nested_in view) (child_values layout (given 0)))
    × AreFullColumns rest views (λ j. given (suc j))

-- the column has this layout and exactly these values (`IsLaidOutAs`), and so have the columns
-- below it (`AreFullColumns`)
abbrev pub IsFullColumn : Layout → Shape → Nested → List Value → Type 0
IsFullColumn layout children view values = IsLaidOutAs layout view values
    × AreFullColumns children (nested_in view) (child_values layout values)
