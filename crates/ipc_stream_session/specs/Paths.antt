-- How a path of numbers leads to a column of a batch, or to one below it (Arrow Columnar Format,
-- "Physical Memory Layout" and "Dictionary-encoded Layout").
use Rattle.std.specs.Prelude.{◌≡◌, ◌≢◌, ◌⊎◌, ◌<◌, ◌≤◌, ℕ, List, [], ◌∷◌, length, slice_get}
use Rattle.std.specs.Prelude.{Bool, true, false, Option, Some, None, ⊤}
use Rattle.ipc_scalar.specs.Bytes.{clear}
use Rattle.ipc_model.specs.declared.layout.Layout.{Layout}
use Rattle.ipc_model.specs.declared.layout.Layout.TheVariants as l
use Rattle.ipc_column.specs.declared.buffers.Buffers.{Buffers}
use Rattle.ipc_column.specs.Contents.{Contents}
use Rattle.ipc_column.specs.Lent.{AreOfColumn}
use Rattle.ipc_column.specs.Nested.{Nested, slot_values}
use Rattle.ipc_column.specs.Slots.{nested_in}
use Rattle.ipc_stream_session.specs.Copies.{Copies}
use Rattle.ipc_stream_session.specs.declared.buffer.BufferKind.{BufferKind}
use Rattle.ipc_stream_session.specs.declared.buffer.BufferKind.TheVariants as kind
use Rattle.ipc_stream_session.specs.declared.column.ColumnFacts.{ColumnFacts}

-- the step to the values of a dictionary, 2^64 - 1
abbrev pub dictionary_step : ℕ
dictionary_step = 18446744073709551615

-- the slots are indices into a dictionary
abbrev pub are_indices : Layout → Bool
are_indices (l.Indices bits signed id) = true
are_indices layout = false

-- a step leads from a column to its child of this number, or to the values of its dictionary
pub record StepsTo (from : Nested) (step : ℕ) (to : Nested) : Type 0 where
  pub child : step ≢ dictionary_step → slice_get (nested_in from) step ≡ Some to
  pub indices : step ≡ dictionary_step → are_indices from.column.layout ≡ true
  pub dictionary : step ≡ dictionary_step → slot_values to ≡ from.column.dictionary

-- there is no such child; or there are no indices, or no value of their dictionary
pub record HasNoStep (from : Nested) (step : ℕ) : Type 0 where
  pub child : step ≢ dictionary_step → length from.children ≤ step
  pub dictionary : step ≡ dictionary_step → are_indices from.column.layout ≡ true
      → from.column.dictionary ≡ []

-- the steps lead, one after the other, from a column to another
abbrev pub LeadsBelow : Nested → List ℕ → Nested → Type 0
LeadsBelow from [] to = to ≡ from
LeadsBelow from (step ∷ rest) to =
    (next : Nested) × StepsTo from step next × LeadsBelow next rest to

-- one of the steps leads nowhere
abbrev pub StopsBelow : Nested → List ℕ → Type 0
StopsBelow from [] = ⊥
StopsBelow from (step ∷ rest) =
    HasNoStep from step ⊎ ((next : Nested) × StepsTo from step next × StopsBelow next rest)

-- the column of the batch with this number, with its buffers and the values of its rows
pub record IsColumnAt (b : Contents) (column : ℕ) (n : Nested) : Type 0 where
  pub member : slice_get b.slots column ≡ Some n
  pub values : AreOfColumn b.rows column (slot_values n)

-- a path leads from the column of its first number to a column by the other steps
abbrev pub LeadsToColumn : Contents → List ℕ → Nested → Type 0
LeadsToColumn b [] to = ⊥
LeadsToColumn b (column ∷ rest) to = (n : Nested) × IsColumnAt b column n × LeadsBelow n rest to

-- a path is empty, or leads nowhere
abbrev pub LeadsNowhere : Contents → List ℕ → Type 0
LeadsNowhere b [] = ⊤
LeadsNowhere b (column ∷ rest) =
    (b.columns ≤ column) ⊎ ((n : Nested) × IsColumnAt b column n × StopsBelow n rest)

-- the layout, the counts and the sizes are those of the column
pub record Describes (n : Nested) (facts : ColumnFacts) : Type 0 where
  pub layout : facts.layout ≡ n.column.layout
  pub slots : facts.slots ≡ length (slot_values n)
  pub nulls : 0 < length n.column.validity
      → facts.nulls ≡ clear n.column.validity (length (slot_values n))
  pub no_bitmap : length n.column.validity ≡ 0 → facts.nulls ≡ 0
  pub children : facts.children ≡ length n.children
  pub validity : facts.validity ≡ length n.column.validity
  pub offsets : facts.offsets ≡ length n.column.offsets
  pub values : facts.values ≡ length n.column.values

-- the facts of the column to which the path leads, if it leads to one
abbrev pub FindsColumn : Contents → List ℕ → Option ColumnFacts → Type 0
FindsColumn b path None = LeadsNowhere b path
FindsColumn b path (Some facts) = (n : Nested) × LeadsToColumn b path n × Describes n facts

-- the bytes of one of the buffers
abbrev pub bytes_of_buffer : BufferKind → Buffers → List ℕ
bytes_of_buffer kind.Validity b = b.validity.now
bytes_of_buffer kind.Offsets b = b.offsets.now
bytes_of_buffer kind.Values b = b.values.now

-- the bytes of one buffer of a column
abbrev pub buffer_of : Nested → BufferKind → List ℕ
buffer_of n kind.Validity = n.column.validity
buffer_of n kind.Offsets = n.column.offsets
buffer_of n kind.Values = n.column.values

-- the buffer of this kind of the column to which the path leads is copied, if it leads to one
abbrev pub FindsBuffer : Contents → List ℕ → BufferKind → List ℕ → List ℕ → Option ℕ → Type 0
FindsBuffer b path buffer old new None = LeadsNowhere b path × (new ≡ old)
FindsBuffer b path buffer old new (Some count) =
    (n : Nested) × LeadsToColumn b path n × Copies (buffer_of n buffer) old new count
