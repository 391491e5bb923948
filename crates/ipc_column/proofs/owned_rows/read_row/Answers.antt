use Rattle.std.proofs.Common.{◌∙◌, sym, ap, Some, arith, ◌+◌}
use Rattle.std.proofs.lemmas.List.{take_all}
use Rattle.ipc_model.specs.declared.value.Value.{Value}
use Rattle.ipc_column.specs.Values.{row}
use Rattle.ipc_column.specs.Views.{part_columns}
use Rattle.ipc_column.proofs.Cells.{row_cell, row_more, row_length}
use Rattle.ipc_column.proofs.lending.Slots.{slot_value, row_values}
use Rattle.ipc_column.proofs.owned_rows.read_row.Goals as goal

pub read_slot-requires : goal.read_slot-requires
read_slot-requires c =
    slot_value c.args.body.now c.args.parts.now c.args.at (c.args.at + 1) c.args.at c.loop-part.part-index c.part-item.result (omega arith)
    c.part-item.is (omega arith) (omega arith)
    (row_values (part_columns c.args.body.now c.args.parts.now) c.args.rows c.args.at c.requires.row c.requires.holds)

pub loop-part-preserved : goal.loop-part-preserved
loop-part-preserved c =
    let size = row_length c.args.body.now c.args.parts.now c.args.at in
    row_more (row (part_columns c.args.body.now c.args.parts.now) c.args.at) _ _ c.loop-part.part-index c.in_ok-read_slot.field-0
    (omega (arith, size))
    (row_cell c.args.body.now c.args.parts.now c.args.at c.loop-part.part-index c.part-item.result (omega arith) c.part-item.is
    ∙ ap (λ (v : Value). Some v) (sym c.in_ok-read_slot.ensures)) c.loop-part.invariant c.in_ok-push.ensures.items

pub returns : goal.returns
returns c =
    let size = row_length c.args.body.now c.args.parts.now c.args.at in
    c.loop-part.invariant
    ∙ take_all c.loop-part.part-index (row (part_columns c.args.body.now c.args.parts.now) c.args.at) (omega (arith, size))
