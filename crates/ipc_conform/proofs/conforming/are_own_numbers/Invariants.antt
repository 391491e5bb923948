use Rattle.std.proofs.Common.{◌≡◌, ℕ, ◌<◌, false, get_or, length}
use Rattle.ipc_model.specs.Fits.{FitsOwnType}
use Rattle.ipc_model.specs.declared.schema.Field.{out-Field}
use Rattle.ipc_model.specs.declared.value.Value.{out-Value}
use Rattle.ipc_model.specs.declared.value.Value.TheVariants.{Null}
use Rattle.ipc_column.specs.Nested.{slot_values}
use Rattle.ipc_column.specs.Slots.{is_null}
use Rattle.ipc_conform.proofs.conforming.are_own_numbers.Given as goal

-- each of the first slots is null or has a value of the field's own
abbrev pub invariant-loop-slot : goal.invariant-loop-slot
invariant-loop-slot l = (i : ℕ) → i < l.slot → is_null (get_or (slot_values l.view) i Null) ≡ false
    → FitsOwnType (out-Field l.field).kind (out-Field l.field).nullable (length (out-Field l.field).children)
    (out-Value (get_or (slot_values l.view) i Null))
