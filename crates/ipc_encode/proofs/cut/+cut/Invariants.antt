use Rattle.std.proofs.Common.{◌≡◌, ℕ, List, length}
use Rattle.ipc_model.specs.declared.limits.Limits.{Limits}
use Rattle.ipc_model.specs.declared.value.Value.{Value}
use Rattle.ipc_column.specs.Shapes.{Shape}
use Rattle.ipc_encode.specs.Built.{AreNodes, BeginsWith, IsColumn}
use Rattle.ipc_encode.specs.Numbers.{Numbering}
use Rattle.ipc_encode.proofs.Growing.{AreMixed}
use Rattle.ipc_encode.proofs.cut.+cut.Given as goal

-- the first columns are cut
abbrev pub invariant-cut_nodes-loop-i : goal.invariant-cut_nodes-loop-i
invariant-cut_nodes-loop-i l = record {
  unvisited : goal.unvisited-cut_nodes-loop-i l;
  cut : (known : Numbering) (limits : Limits) (shape : Shape) (given : ℕ → List Value) → ((j : ℕ) → length (given j) ≡ l.slots)
      → AreNodes (BeginsWith known limits) shape l.fn.nodes given
      → AreMixed (IsColumn known limits) (BeginsWith known limits) l.i shape l.nodes given given;
}
