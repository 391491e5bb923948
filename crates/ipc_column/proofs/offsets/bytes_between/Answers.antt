use Rattle.std.proofs.Common.{length, arith, ◌+◌}
use Rattle.ipc_column.proofs.lending.Slices.{places}
use Rattle.ipc_column.proofs.offsets.bytes_between.Goals as goal

pub slice_bounds-result-count : goal.slice_bounds-result-count
slice_bounds-result-count c =
    let p = places c.args.offsets.now c.args.slots (length c.args.values.now) c.args.slot (c.args.slot + 1) c.requires.order (omega arith)
    (omega arith) in
    omega arith

pub slice_bounds-result-start : goal.slice_bounds-result-start
slice_bounds-result-start c =
    let p = places c.args.offsets.now c.args.slots (length c.args.values.now) c.args.slot (c.args.slot + 1) c.requires.order (omega arith)
    (omega arith) in
    omega arith

pub slice_bounds-result-end : goal.slice_bounds-result-end
slice_bounds-result-end c =
    let p = places c.args.offsets.now c.args.slots (length c.args.values.now) c.args.slot (c.args.slot + 1) c.requires.order (omega arith)
    (omega arith) in
    omega arith
