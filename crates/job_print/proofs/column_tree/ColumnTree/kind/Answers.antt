use Rattle.std.proofs.Common.{subst}
use Rattle.ipc_column.specs.Nested.{Nested}
use Rattle.job_print.specs.SlotReaders.{IsReaderOf}
use Rattle.job_print.proofs.column_tree.ColumnTree.kind.Goals as goal

pub returns : goal.returns
returns c = subst (λ (n : Nested). IsReaderOf c.self.inside.kind n.column.layout) c.self.view_is c.self.invariant.1.0
