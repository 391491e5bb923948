-- Columns that are lent as they are laid out (Arrow Columnar Format, "Physical Memory Layout").
use Rattle.std.specs.Prelude.{◌≡◌, ℕ, ◌*◌, ◌<◌, ◌≤◌, Bool, true, false, List, [], ◌∷◌, length}
use Rattle.std.specs.Prelude.{Some, slice_get, slice_index_or, if◌then◌else◌, not, ℤ, pos}
use Rattle.ipc_model.specs.declared.schema.IntBits.{IntBits}
use Rattle.ipc_model.specs.declared.value.Value.{Value}
use Rattle.ipc_model.specs.declared.value.Value.TheVariants as v
use Rattle.ipc_model.specs.declared.layout.Layout.{Layout}
use Rattle.ipc_model.specs.declared.layout.Layout.TheVariants as l
use Rattle.ipc_model.specs.Layouts.{number_bytes}
use Rattle.ipc_column.specs.declared.buffers.Buffers.{Buffers}
use Rattle.ipc_column.specs.declared.buffers.Numbers.{Numbers}
use Rattle.ipc_column.specs.Columns.{Columns, none, column}
use Rattle.ipc_column.specs.Dictionaries.{has_no_children}
use Rattle.ipc_column.specs.Nested.{Nested, child_columns, slot_values}
use Rattle.ipc_column.specs.checks.Rules.{HasLongChildren, HasOffsets, IsLongEnough}
use Rattle.ipc_column.specs.Slots.{is_null}
use Rattle.ipc_column.specs.Values.{is_valid, number_in, own_value}

-- the layout of each of the columns
abbrev pub layouts_of : Columns → List Layout
layouts_of none = []
layouts_of (column c children rest) = c.layout ∷ layouts_of rest

-- there is one column, and it stores its values itself
pub record AreAlone (cs : Columns) : Type 0 where
  pub layout : Layout
  pub one : layouts_of cs ≡ layout ∷ []
  pub alone : has_no_children layout ≡ true

-- the slots hold numbers
abbrev pub are_numbers : Layout → Bool
are_numbers (l.Numbers bits signed) = true
are_numbers _ = false

-- the value of slot i in the lent numbers: null if the bitmap marks it, else the number
abbrev pub lent_number : Numbers → ℕ → Value
lent_number n i = if is_valid n.validity.now i
    then own_value (l.Numbers n.bits n.signed) [] (λ _. []) [] n.values.now i else v.Null

-- these are the numbers of a column: they have its width and sign, and one number for each of its
-- slots
pub record AreNumbers (s : Nested) (n : Numbers) : Type 0 where
  pub layout : s.column.layout ≡ l.Numbers n.bits n.signed
  pub long : number_bytes n.bits * length (slot_values s) ≤ length n.values.now
  pub each : (i : ℕ) → i < length (slot_values s)
      → slice_get (slot_values s) i ≡ Some (lent_number n i)

-- the bitmap's bit for each value is set if and only if the value is not null; if it has no bytes,
-- no value is null (Arrow Columnar Format, "Validity bitmaps")
pub record MarksNulls (bitmap : List ℕ) (values : List Value) : Type 0 where
  pub each : (i : ℕ) → i < length values
      → not (is_valid bitmap i) ≡ is_null (slice_index_or values i v.Null)

-- these are the buffers of a column: they have the bytes that its slots need, offsets are in order
-- within the values or the child, and children are long enough
pub record AreBuffers (s : Nested) (b : Buffers) : Type 0 where
  pub layout : b.layout ≡ s.column.layout
  pub validity : b.validity.now ≡ s.column.validity
  pub offsets : b.offsets.now ≡ s.column.offsets
  pub values : b.values.now ≡ s.column.values
  pub long_enough : IsLongEnough s.column
  pub in_order : HasOffsets s.column.layout s.column.slots s.column.offsets
      (length s.column.values) (child_columns s)
  pub long_children : HasLongChildren s.column.layout s.column.slots (child_columns s)

-- slot k holds, not null, the index i into the dictionary of its column (Arrow Columnar Format,
-- "Dictionary-encoded Layout")
pub record HoldsEntry (s : Nested) (k i : ℕ) : Type 0 where
  pub bits : IntBits
  pub signed : Bool
  pub id : ℤ
  pub layout : s.column.layout ≡ l.Indices bits signed id
  pub valid : is_valid s.column.validity k ≡ true
  pub index : number_in bits signed s.column.values k ≡ pos i
  pub within : i < length s.column.dictionary
