use Rattle.std.proofs.Common.{◌≡◌, arith}
use Rattle.job_print.specs.Trees.{count_below}
use Rattle.job_print.proofs.Trees.{child_fewer, child_found}
use Rattle.job_print.proofs.column_tree.+tree_of.Goals as goal

pub tree_of-requires : goal.tree_of-requires
tree_of-requires t c =
    let less = child_fewer c.args.slots c.child.result c.loop-number.number c.child.ensures in
    let d : count_below c.args.slots ≡ t = c.decreases in (omega (arith, less, d), tt)

pub loop-number-preserved : goal.loop-number-preserved
loop-number-preserved t c = record {
  found = child_found c.args.slots c.child.result c.in_ok-tree_of.field-0 _ _ c.loop-number.number c.child.ensures
      c.in_ok-tree_of.ensures c.loop-number.invariant.found c.in_ok-push.ensures.items;
}
