use Rattle.std.proofs.Common.{arith, ◌≤◌, count_ones, get_or}
use Rattle.std.proofs.lemmas.Nat.{ones-le}
use Rattle.std.proofs.lemmas.List.Sums.{sum_by_more}
use Rattle.ipc_scalar.proofs.bits.count_set.Goals as goal

pub overflow_add-set : goal.overflow_add-set
overflow_add-set c =
    let few : count_ones (get_or c.args.bytes.now c.loop-byte.byte-index 0) ≤ 8 = ones-le 8 _ (omega (
      arith,
      c.type_inv.bytes
          c.loop-byte.byte-index,
    )) in
    omega (arith, few, c.from-set.ensures)

pub loop-byte-preserved : goal.loop-byte-preserved
loop-byte-preserved c =
    let few : count_ones (get_or c.args.bytes.now c.loop-byte.byte-index 0) ≤ 8 = ones-le 8 _ (omega (
      arith,
      c.type_inv.bytes
          c.loop-byte.byte-index,
    )) in
    let more = sum_by_more count_ones c.args.bytes.now c.loop-byte.byte-index 0 c.loop-byte-test.true in
    record {
      counted = omega (arith, more, c.from-set.ensures);
      few = omega (arith, few, c.from-set.ensures);
    }
