use Rattle.std.proofs.Common.{take}
use Rattle.ipc_encode.specs.Built.{StoresRows}
use Rattle.ipc_encode.specs.Numbers.{known_indices}
use Rattle.ipc_encode.proofs.builder.encode.Given as goal

-- the builder holds the first rows
abbrev pub invariant-loop-row : goal.invariant-loop-row
invariant-loop-row g l = StoresRows (known_indices (g.I.IndexOf.index l.indices)) l.limits l.fields (take l.row-index l.rows) l.builder
