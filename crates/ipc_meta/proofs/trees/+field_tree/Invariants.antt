use Rattle.std.proofs.Common.{◌≡◌, map, take}
use Rattle.ipc_build.specs.Trees.{view}
use Rattle.ipc_meta.specs.Written.{field_tree}
use Rattle.ipc_meta.proofs.trees.+field_tree.Given as goal

abbrev pub invariant-field_trees-loop-field : goal.invariant-field_trees-loop-field
invariant-field_trees-loop-field l = map view l.trees.items ≡ map field_tree (take l.field-index l.field-items)
