use Rattle.std.proofs.Common.{◌≡◌, ℕ, ◌<◌, ◌*◌, false, take, drop, replicate}
use Rattle.ipc_column.specs.Values.{is_valid}
use Rattle.ipc_encode.proofs.canonical.null_slots_are_zeros.Given as goal

-- the null slots so far are zeros
abbrev pub invariant-loop-slot : goal.invariant-loop-slot
invariant-loop-slot l = (i : ℕ) → i < l.slot → is_valid l.marks i ≡ false
    → take l.width (drop (l.width * i) l.bytes) ≡ replicate l.width 0
