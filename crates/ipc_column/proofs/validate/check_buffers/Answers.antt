use Rattle.std.proofs.Common.{◌≡◌, ◌∙◌, sym, false, true, rules}
use Rattle.ipc_column.specs.declared.ranges.ColumnRanges.TheViews.{out-ColumnRanges}
use Rattle.ipc_column.specs.Views.{part_columns}
use Rattle.ipc_model.specs.declared.fault.Fault.TheVariants as fault
use Rattle.ipc_column.specs.checks.Checks.{passes}
use Rattle.ipc_column.proofs.visited.Visited.{part_back, all_pass_from}
use Rattle.ipc_column.proofs.validate.check_buffers.Goals as goal
use Rattle.ipc_column.proofs.Parts.{own_column}

pub returns-then-not-in_order : goal.returns-then-not-in_order
returns-then-not-in_order c =
    part_back (λ x cs. passes fault.BadOffsets x cs ≡ false) c.args.body.now c.args.part.now
    (rw (c.bytes_at-offsets.ensures, c.bytes_at-values.ensures, c.deref.ensures.value) at
    (sym (c.in_order.ensures c.args.body.now) ∙ c.if-not-in_order.true))

pub returns-then-not-children_have_slots : goal.returns-then-not-children_have_slots
returns-then-not-children_have_slots c =
    part_back (λ x cs. passes fault.BadNode x cs ≡ false) c.args.body.now c.args.part.now
    (rw c.deref-2.ensures.value at (sym (c.children_have_slots.ensures c.args.body.now) ∙ c.if-not-children_have_slots.true))

pub returns : goal.returns
returns c =
    let bytes : passes fault.BufferTooShort (own_column c.args.body.now c.args.part.now)
    (part_columns c.args.body.now (out-ColumnRanges c.args.part.now).children.items) ≡ true = search rules in
    let nulls : passes fault.BadNullCount (own_column c.args.body.now c.args.part.now)
    (part_columns c.args.body.now (out-ColumnRanges c.args.part.now).children.items) ≡ true = search rules in
    λ why. part_back (λ x cs. passes why x cs ≡ true) c.args.body.now c.args.part.now
    (all_pass_from (own_column c.args.body.now c.args.part.now)
    (part_columns c.args.body.now (out-ColumnRanges c.args.part.now).children.items) bytes nulls
    (rw (c.bytes_at-offsets.ensures, c.bytes_at-values.ensures, c.deref.ensures.value) at
    (sym (c.in_order.ensures c.args.body.now) ∙ c.if-not-in_order.false))
    (rw c.deref-2.ensures.value at (sym (c.children_have_slots.ensures c.args.body.now) ∙ c.if-not-children_have_slots.false)) why)
