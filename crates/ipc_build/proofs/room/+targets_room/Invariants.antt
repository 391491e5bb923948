use Rattle.std.proofs.Common.{◌≡◌, ◌≤◌, ◌+◌, drop}
use Rattle.ipc_build.specs.Trees.{node, view, fields_view, tables_view}
use Rattle.ipc_build.specs.Layout.{weight}
use Rattle.ipc_build.specs.Ascends.{InRange}
use Rattle.ipc_build.specs.Room.{targets_room}
use Rattle.ipc_build.proofs.room.+targets_room.Given as goal

abbrev pub invariant-targets_room-loop-slot : goal.invariant-targets_room-loop-slot
invariant-targets_room-loop-slot l = record {
  sum : l.sum + targets_room (fields_view (drop l.slot-index l.slots)) ≡ l.size + targets_room (fields_view l.slots);
  small : l.sum ≤ l.greatest;
  fine : InRange (fields_view (drop l.slot-index l.slots)) → InRange (fields_view l.slots);
}

abbrev pub invariant-elements_room-loop-tree : goal.invariant-elements_room-loop-tree
invariant-elements_room-loop-tree l = record {
  sum : l.sum + targets_room (tables_view (drop l.tree-index l.trees)) ≡ l.size + targets_room (tables_view l.trees);
  small : l.sum ≤ l.greatest;
  fine : InRange (tables_view (drop l.tree-index l.trees)) → InRange (tables_view l.trees);
}

abbrev pub decreases-targets_room : goal.decreases-targets_room
decreases-targets_room l = weight (fields_view l.slots.now)

abbrev pub decreases-target_room : goal.decreases-target_room
decreases-target_room l = weight (node l.slot.now).1 + 2

abbrev pub decreases-table_room : goal.decreases-table_room
decreases-table_room l = weight (view l.tree.now) + 1

abbrev pub decreases-elements_room : goal.decreases-elements_room
decreases-elements_room l = weight (tables_view l.trees.now)

abbrev pub decreases-vector_room : goal.decreases-vector_room
decreases-vector_room l = weight (tables_view l.trees.now) + 1
