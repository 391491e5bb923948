use Rattle.std.proofs.Common.{◌≡◌, ◌≤◌, ◌*◌, take, count_ones}
use Rattle.std.specs.List.{sum_by}
use Rattle.ipc_scalar.proofs.bits.count_set.Given as goal

abbrev pub invariant-loop-byte : goal.invariant-loop-byte
invariant-loop-byte l = record {
  counted : l.set ≡ sum_by count_ones (take l.byte-index l.bytes);
  few : l.set ≤ 8 * l.byte-index;
}
