use Rattle.std.proofs.Common.{◌≡◌, ◌≤◌, ◌++◌, ℕ, List, [], ◌∷◌, length, take, true}
use Rattle.std.specs.List.{AllByRecursion}
use Rattle.std.specs.Prelude.{option_copied}
use Rattle.ipc_model.specs.declared.layout.Layout.{Layout}
use Rattle.ipc_model.specs.declared.value.Value.{Value}
use Rattle.ipc_column.specs.Shapes.{Shape}
use Rattle.ipc_encode.specs.Cells.{cell}
use Rattle.ipc_encode.specs.Built.{AreNodes, IsNode, IsColumn}
use Rattle.ipc_encode.specs.Fitting.{FitsSome, ItemsFit}
use Rattle.ipc_encode.specs.Numbers.{known_indices}
use Rattle.ipc_encode.proofs.Growing.{AreMixed}
use Rattle.ipc_encode.proofs.Sizes.{FirstFit}
use Rattle.ipc_encode.proofs.tree.+append.Given as goal

abbrev pub invariant-append_items-loop-i : goal.invariant-append_items-loop-i
invariant-append_items-loop-i g l = record {
  unvisited : goal.unvisited-append_items-loop-i g l;
  appended : (shape : Shape) (given : ℕ → List Value) → AreNodes (IsColumn (known_indices (g.I.IndexOf.index l.indices)) l.limits)
      shape l.fn.nodes given
      → AreMixed (IsColumn (known_indices (g.I.IndexOf.index l.indices)) l.limits)
      (IsColumn (known_indices (g.I.IndexOf.index l.indices)) l.limits) l.i shape l.nodes given (λ j. given j ++ l.items);
  fits : l.fit ≡ true → ItemsFit l.fields l.items;
}

abbrev pub invariant-append_parts-loop-i : goal.invariant-append_parts-loop-i
invariant-append_parts-loop-i g l = record {
  unvisited : goal.unvisited-append_parts-loop-i g l;
  appended : (shape : Shape) (given : ℕ → List Value) → AreNodes (IsColumn (known_indices (g.I.IndexOf.index l.indices)) l.limits)
      shape l.fn.nodes given
      → AreMixed (IsColumn (known_indices (g.I.IndexOf.index l.indices)) l.limits)
      (IsColumn (known_indices (g.I.IndexOf.index l.indices)) l.limits) l.i shape l.nodes given
      (λ j. given j ++ cell j l.parts ∷ []);
  parts : l.fit ≡ true → length l.parts ≡ length l.fields;
  columns : l.fit ≡ true → length l.fields ≤ length l.fn.nodes;
  fits : l.fit ≡ true → FirstFit l.i l.fields l.parts;
}

abbrev pub invariant-append_all-loop-value : goal.invariant-append_all-loop-value
invariant-append_all-loop-value g l = record {
  appended : (layout : Layout) (children : Shape) (before : List Value) → IsNode
      (IsColumn (known_indices (g.I.IndexOf.index l.indices)) l.limits) layout children l.fn.node before
      → IsNode (IsColumn (known_indices (g.I.IndexOf.index l.indices)) l.limits) layout children l.node
      (before ++ take l.value-index l.values);
  fits : l.fit ≡ true → AllByRecursion (FitsSome (option_copied l.field)) (take l.value-index l.values);
}
