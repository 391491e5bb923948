use Rattle.std.proofs.Common.{◌++◌, ℕ, List, replicate}
use Rattle.ipc_model.specs.declared.value.Value.{Value}
use Rattle.ipc_model.specs.declared.value.Value.TheVariants.{Null}
use Rattle.ipc_column.specs.Shapes.{Shape}
use Rattle.ipc_encode.specs.Built.{AreNodes, IsColumn}
use Rattle.ipc_encode.specs.Numbers.{known_indices}
use Rattle.ipc_encode.proofs.Growing.{AreMixed}
use Rattle.ipc_encode.proofs.tree.+append_null.Given as goal

abbrev pub invariant-append_nulls-loop-i : goal.invariant-append_nulls-loop-i
invariant-append_nulls-loop-i g l = record {
  unvisited : goal.unvisited-append_nulls-loop-i g l;
  appended : (shape : Shape) (given : ℕ → List Value) → AreNodes (IsColumn (known_indices (g.I.IndexOf.index l.indices)) l.limits)
      shape l.fn.nodes given
      → AreMixed (IsColumn (known_indices (g.I.IndexOf.index l.indices)) l.limits)
      (IsColumn (known_indices (g.I.IndexOf.index l.indices)) l.limits) l.i shape l.nodes given
      (λ j. given j ++ replicate l.count Null);
}
