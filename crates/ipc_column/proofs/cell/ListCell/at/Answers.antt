use Rattle.std.proofs.Common.{◌∙◌, sym, ap, subst, length, ◌-◌, ◌<◌, ℕ}
use Rattle.ipc_column.specs.Values.{Cells, first_at}
use Rattle.ipc_column.specs.Views.{part_columns}
use Rattle.ipc_column.proofs.lending.Slots.{items_length}
use Rattle.ipc_column.proofs.cell.ListCell.at.Goals as goal

pub item_at-requires-clause-inside : goal.item_at-requires-clause-inside
item_at-requires-clause-inside c =
    let e = ap (λ (r : Cells). length r) (sym c.self.view_is)
    ∙ items_length (first_at (part_columns c.self.inside.body.now c.self.inside.parts.now)) c.self.inside.from
    (c.self.inside.to - c.self.inside.from) in
    subst (λ (n : ℕ). c.args.i < n) e c.requires
