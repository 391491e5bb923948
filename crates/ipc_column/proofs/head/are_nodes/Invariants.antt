use Rattle.std.proofs.Common.{◌≡◌, drop}
use Rattle.std.specs.Prelude.{◌&&◌}
use Rattle.ipc_column.specs.checks.Checks.{all, is_node}
use Rattle.ipc_column.proofs.head.are_nodes.Given as goal

abbrev pub invariant-loop-node : goal.invariant-loop-node
invariant-loop-node l = (l.good && all (is_node l.limits) (drop l.node-index l.nodes)) ≡ all (is_node l.limits) l.nodes
