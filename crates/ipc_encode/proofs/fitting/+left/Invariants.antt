use Rattle.std.proofs.Common.{◌≡◌, ◌+◌, ◌≤◌, ℕ, List, length}
use Rattle.ipc_model.specs.declared.limits.Limits.{Limits}
use Rattle.ipc_model.specs.declared.value.Value.{Value}
use Rattle.ipc_column.specs.Shapes.{Shape}
use Rattle.ipc_encode.specs.Buffers.{buffers_of, padded_bytes}
use Rattle.ipc_encode.specs.Built.{AreNodes, IsColumn}
use Rattle.ipc_encode.specs.Numbers.{Numbering}
use Rattle.ipc_encode.proofs.Growing.{first}
use Rattle.ipc_encode.proofs.fitting.+left.Given as goal

abbrev pub invariant-remaining_all-loop-node : goal.invariant-remaining_all-loop-node
invariant-remaining_all-loop-node l = record {
  left : (known : Numbering) (limits : Limits) (shape : Shape) (given : ℕ → List Value) → AreNodes (IsColumn known limits)
      shape l.nodes given
      → length (padded_bytes (buffers_of (first l.node-index shape) given)) + l.left ≡ l.bytes;
  fewer : l.left ≤ l.bytes;
}
