-- Texts of a dictionary, found by the index in a slot (Arrow Columnar Format, "Dictionary-encoded
-- Layout").
use Rattle.std.specs.Prelude.{◌≡◌, ◌≤◌, ℕ, ℤ, Bool, true, length, take, Some, slice_get, ⊤}
use Rattle.ipc_model.specs.declared.layout.Layout.{Layout}
use Rattle.ipc_model.specs.declared.layout.Layout.TheVariants as l
use Rattle.ipc_model.specs.declared.schema.IntBits.{IntBits}
use Rattle.ipc_model.specs.declared.value.Value.TheVariants as v
use Rattle.ipc_column.specs.Nested.{Nested, slot_values}
use Rattle.job_print.specs.declared.column_tree.Entry.{Entry}
use Rattle.job_print.specs.declared.column_tree.Entry.TheVariants as entry

-- slots of this layout are indices into the values of a dictionary
pub record AreIndices (layout : Layout) : Type 0 where
  pub bits : IntBits
  pub signed : Bool
  pub id : ℤ
  pub are : layout ≡ l.Indices bits signed id

-- `entries` is a column of texts, which are the values of the dictionary of `column`, a column of
-- indices
pub record AreTexts (column entries : Nested) : Type 0 where
  pub indexed : AreIndices column.column.layout
  pub laid : entries.column.layout ≡ l.VariableBytes true
  pub values : slot_values entries ≡ column.column.dictionary

-- the entry that was found for slot i is the slot's value; nothing is stated for `Others`
abbrev pub IsEntryOf : Nested → ℕ → Entry → Type 0
IsEntryOf column i (entry.Text bytes len) = (len ≤ length bytes.now)
    × (slice_get (slot_values column) i ≡ Some (v.Text (take len bytes.now)))
IsEntryOf column i entry.Null = slice_get (slot_values column) i ≡ Some v.Null
IsEntryOf column i entry.Others = ⊤
