use Rattle.std.proofs.Common.{◌∙◌, sym, ap, subst, length, ◌<◌, ℕ}
use Rattle.ipc_column.specs.Values.{Cells}
use Rattle.ipc_column.proofs.Cells.{row_length}
use Rattle.ipc_column.proofs.cell.StructCell.at.Goals as goal

pub member_at-requires-clause-inside : goal.member_at-requires-clause-inside
member_at-requires-clause-inside c =
    let e = ap (λ (r : Cells). length r) (sym c.self.view_is)
    ∙ row_length c.self.inside.body.now c.self.inside.parts.now c.self.inside.slot in
    subst (λ (n : ℕ). c.args.i < n) e c.requires
