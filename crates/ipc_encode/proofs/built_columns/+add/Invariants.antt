use Rattle.std.proofs.Common.{◌≤◌, ℕ, List}
use Rattle.ipc_model.specs.declared.limits.Limits.{Limits}
use Rattle.ipc_model.specs.declared.value.Value.{Value}
use Rattle.ipc_column.specs.Shapes.{Shape}
use Rattle.ipc_encode.specs.Built.{HoldColumns}
use Rattle.ipc_encode.specs.Numbers.{Numbering, new_indices}
use Rattle.ipc_encode.specs.Segments.{AddsColumns}
use Rattle.ipc_encode.proofs.Growing.{first}
use Rattle.ipc_encode.proofs.built_columns.+add.Given as goal

-- the first columns are added
abbrev pub invariant-add_nodes-loop-i : goal.invariant-add_nodes-loop-i
invariant-add_nodes-loop-i g l = record {
  unvisited : goal.unvisited-add_nodes-loop-i g l;
  within : l.draft.len ≤ l.limits.body;
  adds : (known : Numbering) (kept : Limits) (shape : Shape) (given : ℕ → List Value) → kept.slots ≤ l.limits.slots
      → HoldColumns known kept shape l.fn.nodes given
      → AddsColumns l.limits (new_indices (g.N.Renumber.number l.numbers) known) (first l.i shape) given l.fn.draft l.draft;
}
