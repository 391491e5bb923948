use Rattle.std.proofs.Common.{◌≡◌, ◌+◌, ◌*◌, ◌++◌, drop}
use Rattle.ipc_build.specs.Trees.{fields_view}
use Rattle.ipc_build.specs.Layout.{vtable_entries}
use Rattle.ipc_build.specs.Ascends.{fields, Writable}
use Rattle.ipc_build.proofs.tables.write_entries.Given as goal

abbrev pub invariant-loop-number : goal.invariant-loop-number
invariant-loop-number l = record {
  ordered : Writable (fields l.first) (fields_view (drop l.number-index l.slots));
  distance : l.distance ≡ 4 + 8 * l.number-index;
  written : l.out.items ++ vtable_entries l.first l.distance (fields_view (drop l.number-index l.slots))
      ≡ l.fn.out.items ++ vtable_entries 0 4 (fields_view l.slots);
}
