use Rattle.std.proofs.Common.{◌∙◌, sym, ap, length}
use Rattle.ipc_column.specs.Values.{Cells}
use Rattle.ipc_column.proofs.Cells.{row_length}
use Rattle.ipc_column.proofs.cell.StructCell.len.Goals as goal

pub returns : goal.returns
returns c = sym (row_length c.self.inside.body.now c.self.inside.parts.now c.self.inside.slot) ∙ ap (λ (r : Cells). length r) c.self.view_is
