use Rattle.std.proofs.Common.{◌≡◌, ◌+◌, ◌-◌, true}
use Rattle.ipc_column.specs.checks.Checks.{all_slots, index_good}
use Rattle.ipc_column.proofs.indices.are_null_or_indices.Given as goal

abbrev pub invariant-loop-slot : goal.invariant-loop-slot
invariant-loop-slot l = record {
  visited : l.tests ≡ l.fn.tests + (l.slot - l.from);
  good : all_slots (index_good l.validity l.bits l.signed l.count l.indices) l.from (l.slot - l.from) ≡ true;
}
