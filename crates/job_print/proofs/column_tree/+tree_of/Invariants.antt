use Rattle.std.proofs.Common.{◌≡◌, take}
use Rattle.ipc_column.specs.Slots.{nested_in}
use Rattle.job_print.specs.Trees.{count_below}
use Rattle.job_print.proofs.column_tree.+tree_of.Given as goal

-- how many columns are below
abbrev pub decreases-tree_of : goal.decreases-tree_of
decreases-tree_of l = count_below l.slots

-- the first children were found
abbrev pub invariant-loop-number : goal.invariant-loop-number
invariant-loop-number l = record { found : l.children.items ≡ take l.number (nested_in l.slots) }
