use Rattle.std.proofs.Common.{◌≡◌, map, take}
use Rattle.ipc_build.specs.Trees.{view}
use Rattle.ipc_meta.specs.Written.{pair_tree}
use Rattle.ipc_meta.proofs.slots.pair_trees.Given as goal

abbrev pub invariant-loop-pair : goal.invariant-loop-pair
invariant-loop-pair l = map view l.trees.items ≡ map pair_tree (take l.pair-index l.pairs)
