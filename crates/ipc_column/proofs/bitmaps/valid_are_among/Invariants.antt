use Rattle.std.proofs.Common.{◌≡◌, ℕ, ◌<◌, true}
use Rattle.ipc_column.specs.Values.{is_valid}
use Rattle.ipc_column.proofs.bitmaps.valid_are_among.Given as goal

-- each of the first slots that is valid by one bitmap is by the other
abbrev pub invariant-loop-slot : goal.invariant-loop-slot
invariant-loop-slot l = (i : ℕ) → i < l.slot → is_valid l.few i ≡ true → is_valid l.many i ≡ true
