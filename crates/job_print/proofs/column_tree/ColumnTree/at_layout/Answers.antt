use Rattle.std.proofs.Common.{◌∙◌, ap}
use Rattle.ipc_column.specs.Nested.{Nested}
use Rattle.job_print.proofs.column_tree.ColumnTree.at_layout.Goals as goal

pub at_layout-requires-clause-layout : goal.at_layout-requires-clause-layout
at_layout-requires-clause-layout c = ap (λ (n : Nested). n.column.layout) c.self.view_is ∙ c.requires.layout

pub at_layout-requires-clause-slot : goal.at_layout-requires-clause-slot
at_layout-requires-clause-slot c = rw c.self.view_is c.requires.slot

pub returns-clause-value : goal.returns-clause-value
returns-clause-value c = rw c.self.view_is at c.at_layout.ensures.value

pub returns-clause-inside : goal.returns-clause-inside
returns-clause-inside c = rw c.self.view_is at c.at_layout.ensures.inside
