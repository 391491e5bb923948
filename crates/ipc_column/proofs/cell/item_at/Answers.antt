use Rattle.std.proofs.Common.{◌≡◌, ◌∙◌, sym, ap, Some, ◌<◌, ◌+◌, ◌-◌, length, rules, arith}
use Rattle.ipc_model.specs.declared.value.Value.{Value}
use Rattle.ipc_column.specs.Values.{first_at}
use Rattle.ipc_column.specs.Views.{part_columns}
use Rattle.ipc_column.proofs.lending.Slots.{slot_value, items_at, first_is, first_none}
use Rattle.ipc_column.proofs.cell.item_at.Goals as goal

pub cell_at-requires : goal.cell_at-requires
cell_at-requires c =
    let some : 0 < length c.args.parts.now = search rules in
    slot_value c.args.body.now c.args.parts.now c.args.from c.args.to (c.args.from + c.args.i) 0 c.index-parts-0.result some
    c.index-parts-0.is
    (omega arith) (omega (arith, c.requires.inside)) c.requires.range

pub returns-then-is_empty : goal.returns-then-is_empty
returns-then-is_empty c =
    let none : length c.args.parts.now ≡ 0 = search rules in
    items_at (first_at (part_columns c.args.body.now c.args.parts.now)) c.args.from (c.args.to - c.args.from) c.args.i c.requires.inside
    ∙ ap (λ (v : Value). Some v) (first_none c.args.body.now c.args.parts.now (c.args.from + c.args.i) none)

pub returns-else-is_empty : goal.returns-else-is_empty
returns-else-is_empty c =
    let some : 0 < length c.args.parts.now = search rules in
    items_at (first_at (part_columns c.args.body.now c.args.parts.now)) c.args.from (c.args.to - c.args.from) c.args.i c.requires.inside
    ∙ ap (λ (v : Value). Some v) (first_is c.args.body.now c.args.parts.now c.index-parts-0.result (c.args.from + c.args.i) some
    c.index-parts-0.is ∙ sym c.cell_at.ensures.value)
