use Rattle.std.proofs.Common.{◌≡◌, ◌≤◌, ◌*◌, take, count_ones}
use Rattle.std.specs.List.{sum_by}
use Rattle.ipc_scalar.proofs.bits.count_set_in_block.Given as goal

abbrev pub invariant-loop-word : goal.invariant-loop-word
invariant-loop-word l = record {
  counted : l.set ≡ sum_by count_ones (take l.word-index l.word-items);
  few : l.set ≤ 64 * l.word-index;
}
