use Rattle.std.proofs.Common.{◌≡◌}
use Rattle.ipc_meta.specs.Reading.{pairs_read, pair_read}
use Rattle.ipc_meta.proofs.Each.{from_ith}
use Rattle.ipc_meta.proofs.fields.read_pairs.Given as goal
use Rattle.ipc_meta.proofs.Each.{with_front}

abbrev pub invariant-loop-i : goal.invariant-loop-i
invariant-loop-i l = record {
  range : l.i-end ≡ l.tables.len;
  read : with_front l.pairs.items (from_ith pair_read l.tables.bytes l.tables.at l.i l.tables.len l.budget)
      ≡ pairs_read l.table l.id l.fn.budget;
}
