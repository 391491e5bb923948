use Rattle.std.proofs.Common.{◌≡◌, ◌+◌, ◌≤◌}
use Rattle.ipc_scalar.specs.Bytes.{clear}
use Rattle.ipc_encode.proofs.bitmaps.clear_between.Given as goal

-- the clear bits so far were counted
abbrev pub invariant-loop-slot : goal.invariant-loop-slot
invariant-loop-slot l = record {
  counted : clear l.bytes l.from + l.count ≡ clear l.bytes l.slot;
  few : l.from + l.count ≤ l.slot;
}
