use Rattle.std.proofs.Common.{◌+◌}
use Rattle.ipc_build.specs.Trees.{fields_view, tables_view, view, node}
use Rattle.ipc_build.specs.Layout.{weight}
use Rattle.ipc_build.proofs.Patches.{FieldsPut, TablesPut}
use Rattle.ipc_build.proofs.tables.+write.Given as goal

abbrev pub decreases-write_fields : goal.decreases-write_fields
decreases-write_fields l = weight (fields_view l.slots.now)

abbrev pub decreases-write_target : goal.decreases-write_target
decreases-write_target l = weight (node l.slot.now).1 + 2

abbrev pub invariant-write_fields-loop-slot : goal.invariant-write_fields-loop-slot
invariant-write_fields-loop-slot l = FieldsPut l.slots l.slot-index l.here l.at l.fn.out.items l.out.items

abbrev pub decreases-write_table : goal.decreases-write_table
decreases-write_table l = weight (view l.tree.now) + 1

abbrev pub decreases-write_elements : goal.decreases-write_elements
decreases-write_elements l = weight (tables_view l.trees.now)

abbrev pub invariant-write_elements-loop-tree : goal.invariant-write_elements-loop-tree
invariant-write_elements-loop-tree l = TablesPut l.trees l.tree-index l.here l.at l.fn.out.items l.out.items

abbrev pub decreases-write_vector : goal.decreases-write_vector
decreases-write_vector l = weight (tables_view l.trees.now) + 1
