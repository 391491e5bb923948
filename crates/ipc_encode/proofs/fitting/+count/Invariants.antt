use Rattle.std.proofs.Common.{◌≡◌, ℕ, List}
use Rattle.ipc_model.specs.declared.limits.Limits.{Limits}
use Rattle.ipc_model.specs.declared.value.Value.{Value}
use Rattle.ipc_column.specs.Shapes.{Shape, node_count}
use Rattle.ipc_encode.specs.Built.{AreNodes, IsColumn}
use Rattle.ipc_encode.specs.Numbers.{Numbering}
use Rattle.ipc_encode.proofs.Growing.{first}
use Rattle.ipc_encode.proofs.fitting.+count.Given as goal

abbrev pub invariant-loop-node : goal.invariant-loop-node
invariant-loop-node l = (known : Numbering) (limits : Limits) (shape : Shape) (given : ℕ → List Value)
    → AreNodes (IsColumn known limits) shape l.nodes given → l.count ≡ node_count (first l.node-index shape)
