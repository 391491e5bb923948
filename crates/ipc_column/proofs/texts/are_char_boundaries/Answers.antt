use Rattle.std.proofs.Common.{arith}
use Rattle.ipc_column.specs.Values.{offset_position}
use Rattle.ipc_column.proofs.lending.Slices.{places, cut_more}
use Rattle.ipc_column.proofs.texts.are_char_boundaries.Goals as goal

pub overflow_sub-place_at : goal.overflow_sub-place_at
overflow_sub-place_at c =
    let p = places c.args.offsets.now c.args.slots (offset_position c.args.offsets.now c.args.slots) 0 c.loop-slot.slot c.requires.order
    (omega arith) (omega arith) in
    omega (arith, p.order)

pub loop-slot-preserved : goal.loop-slot-preserved
loop-slot-preserved c =
    cut_more c.args.offsets.now c.args.text.now 0 c.loop-slot.slot c.loop-slot.invariant
    (rw (c.place_at.ensures, c.place_at-first.ensures) at (c.is_char_boundary.ensures.test.0 c.if-not-is_char_boundary.false))
