use Rattle.std.proofs.Common.{◌∙◌, ap}
use Rattle.ipc_column.specs.Nested.{Nested}
use Rattle.job_print.proofs.column_tree.ColumnTree.text_at.Goals as goal

pub text_at-requires-clause-layout : goal.text_at-requires-clause-layout
text_at-requires-clause-layout c = ap (λ (n : Nested). n.column.layout) c.self.view_is ∙ c.requires.layout

pub text_at-requires-clause-slot : goal.text_at-requires-clause-slot
text_at-requires-clause-slot c = rw c.self.view_is c.requires.slot

pub returns-clause-value : goal.returns-clause-value
returns-clause-value c = rw c.self.view_is at c.text_at.ensures.value
