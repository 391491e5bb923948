use Rattle.std.proofs.Common.{◌∙◌, sym, arith}
use Rattle.ipc_column.specs.Views.{column_of, children_of}
use Rattle.ipc_column.proofs.lending.Slots.{bitmap_upto, part_long, part_most}
use Rattle.ipc_column.proofs.visited.Visited.{indices_bytes, indices_judged, indices_part, indices_pass_part, visited_judged}
use Rattle.ipc_column.proofs.visited.Weights.{texts_weight}
use Rattle.ipc_column.proofs.visit.check_indices.Goals as goal

pub are_null_or_indices-requires-clause-bitmap : goal.are_null_or_indices-requires-clause-bitmap
are_null_or_indices-requires-clause-bitmap c =
    rw c.bytes_at-validity.ensures (bitmap_upto _ c.args.to _
    (part_long c.args.body.now c.args.part.now c.args.from c.args.to c.requires.slots).bitmap
    (part_most c.args.body.now c.args.part.now c.args.from c.args.to c.requires.slots))

pub are_null_or_indices-requires-clause-inside : goal.are_null_or_indices-requires-clause-inside
are_null_or_indices-requires-clause-inside c =
    rw c.bytes_at-indices.ensures
    (indices_bytes c.args.body.now c.args.part.now c.args.bits c.args.signed c.args.from c.args.to c.requires.slots c.requires.some
    c.requires.indices)

pub are_null_or_indices-requires-clause-fits : goal.are_null_or_indices-requires-clause-fits
are_null_or_indices-requires-clause-fits c =
    let w = texts_weight (column_of c.args.body.now c.args.part.now) (children_of c.args.body.now c.args.part.now) c.args.from c.args.to
    (visited_judged c.args.body.now c.args.part.now (indices_judged
    (column_of c.args.body.now c.args.part.now).layout c.args.bits c.args.signed c.requires.indices)) in
    omega (arith, w, c.requires.room)

pub returns-then-are_null_or_indices-clause-judged : goal.returns-then-are_null_or_indices-clause-judged
returns-then-are_null_or_indices-clause-judged c =
    indices_pass_part c.args.body.now c.args.part.now c.args.bits c.args.signed c.args.from c.args.to c.requires.indices
    (rw (c.bytes_at-validity.ensures, c.bytes_at-indices.ensures, c.len-count.ensures) at
    (sym c.are_null_or_indices.ensures.good ∙ c.if-are_null_or_indices.true))

pub returns-else-are_null_or_indices-clause-judged : goal.returns-else-are_null_or_indices-clause-judged
returns-else-are_null_or_indices-clause-judged c =
    sym (indices_part c.args.body.now c.args.part.now c.args.bits c.args.signed c.args.from c.args.to c.requires.indices)
    ∙ (rw (c.bytes_at-validity.ensures, c.bytes_at-indices.ensures, c.len-count.ensures) at
    (sym c.are_null_or_indices.ensures.good ∙ c.if-are_null_or_indices.false))

pub returns-then-are_null_or_indices-clause-cost : goal.returns-then-are_null_or_indices-clause-cost
returns-then-are_null_or_indices-clause-cost c =
    let w = texts_weight (column_of c.args.body.now c.args.part.now) (children_of c.args.body.now c.args.part.now) c.args.from c.args.to
    (visited_judged c.args.body.now c.args.part.now (indices_judged
    (column_of c.args.body.now c.args.part.now).layout c.args.bits c.args.signed c.requires.indices)) in
    omega (arith, w, c.are_null_or_indices.ensures.counted)

pub returns-else-are_null_or_indices-clause-cost : goal.returns-else-are_null_or_indices-clause-cost
returns-else-are_null_or_indices-clause-cost c =
    let w = texts_weight (column_of c.args.body.now c.args.part.now) (children_of c.args.body.now c.args.part.now) c.args.from c.args.to
    (visited_judged c.args.body.now c.args.part.now (indices_judged
    (column_of c.args.body.now c.args.part.now).layout c.args.bits c.args.signed c.requires.indices)) in
    omega (arith, w, c.are_null_or_indices.ensures.counted)
