use Rattle.std.proofs.Common.{◌≡◌, ◌++◌, map, take}
use Rattle.ipc_encode.specs.Cells.{slots}
use Rattle.ipc_encode.specs.Numbers.{as_number, new_index}
use Rattle.ipc_encode.specs.Pieces.{Number}
use Rattle.ipc_encode.proofs.built_columns.push_indices.Given as goal

abbrev pub invariant-loop-index : goal.invariant-loop-index
invariant-loop-index g l = l.bytes.items ≡ l.fn.bytes.items
    ++ slots (Number l.bits) (map as_number (map (new_index (g.N.Renumber.number l.numbers l.id)) (take l.index-index l.indices)))
