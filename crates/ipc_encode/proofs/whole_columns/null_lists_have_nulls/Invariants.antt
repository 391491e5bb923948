use Rattle.std.proofs.Common.{◌≡◌, ℕ, ◌+◌, ◌*◌, ◌≤◌, ◌<◌, false, get_or}
use Rattle.ipc_model.specs.declared.value.Value.TheVariants.{Null}
use Rattle.ipc_column.specs.Nested.{slot_values}
use Rattle.ipc_column.specs.Values.{is_valid}
use Rattle.ipc_encode.proofs.whole_columns.null_lists_have_nulls.Given as goal

-- the child has only nulls for the null lists so far
abbrev pub invariant-loop-slot : goal.invariant-loop-slot
invariant-loop-slot l = (i : ℕ) → i < l.slot → is_valid l.marks i ≡ false
    → (j : ℕ) → l.size * i ≤ j → j < l.size * (i + 1) → get_or (slot_values l.child) j Null ≡ Null
