use Rattle.std.proofs.Common.{◌∙◌, ap, length}
use Rattle.ipc_column.specs.Values.{Cells}
use Rattle.ipc_column.proofs.view.ColumnView.len.Goals as goal

pub returns : goal.returns
returns c = c.len.ensures ∙ ap (λ (vs : Cells). length vs) c.self.view_is
