use Rattle.std.proofs.Common.{◌∙◌, ap, length}
use Rattle.ipc_column.specs.Nested.{Nested, slot_values}
use Rattle.job_print.proofs.column_tree.ColumnTree.len.Goals as goal

pub returns : goal.returns
returns c = c.len.ensures ∙ ap (λ (n : Nested). length (slot_values n)) c.self.view_is
