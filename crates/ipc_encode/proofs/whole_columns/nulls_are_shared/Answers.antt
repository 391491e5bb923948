use Rattle.std.proofs.Common.{arith}
use Rattle.ipc_column.specs.Nested.{slot_values}
use Rattle.ipc_encode.proofs.NestedSlots.{shared_null}
use Rattle.ipc_encode.proofs.whole_columns.nulls_are_shared.Goals as goal

pub returns-in-Some : goal.returns-in-Some
returns-in-Some c = λ report i m null.
    let size = c.len.ensures in
    shared_null c.in-Some.own.now c.args.marks.now (slot_values c.args.child.now) i m c.in-Some.ensures.marks
    (c.valid_are_among.ensures report i (omega (arith, m, size))) null
