use Rattle.std.proofs.Common.{◌≡◌, ◌≤◌, ◌*◌, take, count_ones}
use Rattle.std.specs.List.{sum_by}
use Rattle.ipc_scalar.proofs.bits.count_set_in_blocks.Given as goal

abbrev pub invariant-loop-block : goal.invariant-loop-block
invariant-loop-block l = record {
  counted : l.set ≡ sum_by (sum_by count_ones) (take l.block-index l.blocks);
  few : l.set ≤ 256 * l.block-index;
}
