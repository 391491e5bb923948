use Rattle.std.proofs.Common.{◌≡◌, ◌++◌, drop}
use Rattle.ipc_build.specs.Layout.{struct_bytes}
use Rattle.ipc_build.proofs.tables.push_pairs.Given as goal

abbrev pub invariant-loop-pair : goal.invariant-loop-pair
invariant-loop-pair l = l.out.items ++ struct_bytes (drop l.pair-index l.pairs) ≡ l.fn.out.items ++ struct_bytes l.pairs
