use Rattle.std.proofs.Common.{◌≡◌, ℕ, ◌<◌, Some, length}
use Rattle.std.specs.Prelude.{slice_get}
use Rattle.ipc_model.specs.declared.schema.Field.{Field}
use Rattle.ipc_column.specs.Nested.{Nested, only_column, slot_values}
use Rattle.ipc_column.specs.checks.Rules.{HasUtf8Texts}
use Rattle.ipc_column.specs.Shapes.{child_shape, field_layout}
use Rattle.ipc_column.specs.Slots.{nested_in}
use Rattle.ipc_encode.specs.Buffers.{child_values}
use Rattle.ipc_encode.specs.WholeColumns.{IsFullColumn}
use Rattle.ipc_encode.proofs.whole_columns.+has_field_layout.Given as goal

-- the first children lie whole
abbrev pub invariant-have_field_layouts-loop-i : goal.invariant-have_field_layouts-loop-i
invariant-have_field_layouts-loop-i l = ((i : ℕ) → i < length (slot_values l.view) → HasUtf8Texts (only_column l.view) i)
    → (j : ℕ) → j < l.i → (f : Field) (v : Nested) → slice_get l.fields j ≡ Some f → slice_get (nested_in l.view) j ≡ Some v
    → IsFullColumn (field_layout f) (child_shape f) v (child_values l.view.column.layout (slot_values l.view) j)
