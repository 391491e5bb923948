use Rattle.std.proofs.Common.{◌≡◌, ◌+◌, ◌-◌, ◌*◌, ◌++◌}
use Rattle.ipc_meta.specs.Heads.{number_pairs}
use Rattle.ipc_meta.proofs.batches.read_numbers.Given as goal

abbrev pub invariant-loop-i : goal.invariant-loop-i
invariant-loop-i l = record {
  range : l.i-end ≡ l.structs.len;
  read : l.numbers.items ++ number_pairs l.structs.bytes (l.structs.at + l.i * 16) (l.structs.len - l.i)
      ≡ number_pairs l.structs.bytes l.structs.at l.structs.len;
}
