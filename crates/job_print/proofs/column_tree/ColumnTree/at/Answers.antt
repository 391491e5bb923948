use Rattle.job_print.proofs.column_tree.ColumnTree.at.Goals as goal

pub at-requires : goal.at-requires
at-requires c = rw c.self.view_is c.requires

pub returns-clause-value : goal.returns-clause-value
returns-clause-value c = rw c.self.view_is at c.at.ensures.value

pub returns-clause-inside : goal.returns-clause-inside
returns-clause-inside c = rw c.self.view_is at c.at.ensures.inside
