use Rattle.std.proofs.Common.{◌≡◌, ◌≤◌, ◌^◌, drop}
use Rattle.ipc_build.specs.Trees.{fields_view}
use Rattle.ipc_build.specs.Layout.{entry_count}
use Rattle.ipc_build.proofs.places.entry_count.Given as goal

abbrev pub invariant-loop-number : goal.invariant-loop-number
invariant-loop-number l = record {
  value : entry_count l.count (fields_view (drop l.number-index l.slots))
      ≡ entry_count 0 (fields_view l.slots);
  small : l.count ≤ 2 ^ 16;
}
