use Rattle.std.proofs.Common.{◌≡◌, ℕ, ◌*◌, ◌<◌, true}
use Rattle.ipc_scalar.specs.Bytes.{bit}
use Rattle.ipc_column.proofs.bitmaps.bits_are_among.Given as goal

-- each bit that is set in the first bytes is set in those of the other list
abbrev pub invariant-loop-i : goal.invariant-loop-i
invariant-loop-i l = (i : ℕ) → i < 8 * l.i → bit l.few i ≡ true → bit l.many i ≡ true
