use Rattle.std.proofs.Common.{◌∙◌, sym, ap, Some, ◌+◌, arith}
use Rattle.ipc_model.specs.declared.value.Value.{Value}
use Rattle.ipc_column.proofs.Cells.{row_cell}
use Rattle.ipc_column.proofs.lending.Slots.{slot_value}
use Rattle.ipc_column.proofs.cell.member_at.Goals as goal

pub cell_at-requires : goal.cell_at-requires
cell_at-requires c =
    slot_value c.args.body.now c.args.parts.now c.args.slot (c.args.slot + 1) c.args.slot c.args.i c.index-parts-i.result c.requires.inside
    c.index-parts-i.is (omega arith) (omega arith) c.requires.values

pub returns : goal.returns
returns c =
    row_cell c.args.body.now c.args.parts.now c.args.slot c.args.i c.index-parts-i.result c.requires.inside c.index-parts-i.is
    ∙ ap (λ (v : Value). Some v) (sym c.cell_at.ensures.value)
