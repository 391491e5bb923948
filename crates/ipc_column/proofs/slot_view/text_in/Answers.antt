use Rattle.std.proofs.Common.{length, arith, ◌+◌}
use Rattle.ipc_column.proofs.lending.Slices.{places}
use Rattle.ipc_column.proofs.slot_view.text_in.Goals as goal

pub slice_bounds-result-count : goal.slice_bounds-result-count
slice_bounds-result-count c =
    let p = places c.args.offsets.now c.args.slots (length c.args.values.now) c.args.slot (c.args.slot + 1) c.requires.order (omega arith)
    (omega arith) in
    omega arith

pub slice_bounds-result-start : goal.slice_bounds-result-start
slice_bounds-result-start c =
    let p = places c.args.offsets.now c.args.slots (length c.args.values.now) c.args.slot (c.args.slot + 1) c.requires.order (omega arith)
    (omega arith) in
    omega arith

pub overflow_sub-result : goal.overflow_sub-result
overflow_sub-result c =
    let p = places c.args.offsets.now c.args.slots (length c.args.values.now) c.args.slot (c.args.slot + 1) c.requires.order (omega arith)
    (omega arith) in
    omega arith

pub returns-clause-inside : goal.returns-clause-inside
returns-clause-inside c =
    let p = places c.args.offsets.now c.args.slots (length c.args.values.now) c.args.slot (c.args.slot + 1) c.requires.order (omega arith)
    (omega arith) in
    grind arith
