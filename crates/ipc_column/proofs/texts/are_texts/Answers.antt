use Rattle.std.proofs.Common.{◌≡◌, ◌-◌, [], length, arith}
use Rattle.ipc_column.proofs.lending.Slices.{places, whole_good}
use Rattle.ipc_column.proofs.texts.are_texts.Goals as goal

pub slice_bounds-from_utf8-count : goal.slice_bounds-from_utf8-count
slice_bounds-from_utf8-count c =
    let p = places c.args.offsets.now c.args.slots (length c.args.values.now) 0 c.args.slots c.requires.order (omega arith) (omega arith) in
    omega (arith, p.order, p.last, p.inside)

pub slice_bounds-from_utf8-start : goal.slice_bounds-from_utf8-start
slice_bounds-from_utf8-start c =
    let p = places c.args.offsets.now c.args.slots (length c.args.values.now) 0 c.args.slots c.requires.order (omega arith) (omega arith) in
    omega (arith, p.order, p.last, p.inside)

pub slice_bounds-from_utf8-end : goal.slice_bounds-from_utf8-end
slice_bounds-from_utf8-end c =
    let p = places c.args.offsets.now c.args.slots (length c.args.values.now) 0 c.args.slots c.requires.order (omega arith) (omega arith) in
    omega (arith, p.order, p.last, p.inside)

pub returns-in-Ok : goal.returns-in-Ok
returns-in-Ok c = λ e.
    let text = rw (c.place_at.ensures, c.place_at-2.ensures) at c.in-Ok.ensures in
    let less : c.args.slots - 0 ≡ c.args.slots = omega arith in
    rw less at (whole_good c.args.offsets.now c.args.values.now [] c.args.slots 0 c.args.slots c.requires.order (omega arith) (omega arith)
    text.1 (rw text.0 at (c.are_char_boundaries.ensures e)))
