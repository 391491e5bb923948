use Rattle.std.proofs.Common.{◌∙◌, ap, length}
use Rattle.job_print.proofs.Trees.{children_length}
use Rattle.job_print.proofs.column_tree.ColumnTree.children.Goals as goal

pub returns : goal.returns
returns c =
    ap length c.as_slice.ensures.value
    ∙ children_length c.self.inside.slots c.args.self.now c.self.inside.children.items c.self.invariant.0 c.self.view_is
