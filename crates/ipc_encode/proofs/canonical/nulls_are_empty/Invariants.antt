use Rattle.std.proofs.Common.{◌≡◌, ℕ, ◌+◌, ◌*◌, ◌<◌, false}
use Rattle.ipc_scalar.specs.Bytes.{num}
use Rattle.ipc_column.specs.Values.{is_valid}
use Rattle.ipc_encode.proofs.canonical.nulls_are_empty.Given as goal

-- each of the first null slots ends where it begins
abbrev pub invariant-loop-slot : goal.invariant-loop-slot
invariant-loop-slot l = (i : ℕ) → i < l.slot → is_valid l.marks i ≡ false → num l.offsets (4 * (i + 1)) 4 ≡ num l.offsets (4 * i) 4
