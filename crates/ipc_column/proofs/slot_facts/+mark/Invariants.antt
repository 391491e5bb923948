use Rattle.std.proofs.Common.{◌≡◌, take}
use Rattle.ipc_column.specs.checks.Marks.{AreMarked}
use Rattle.ipc_column.specs.Views.{part_columns}
use Rattle.ipc_column.proofs.slot_facts.+mark.Given as goal

abbrev pub invariant-store_all_facts-loop-i : goal.invariant-store_all_facts-loop-i
invariant-store_all_facts-loop-i l = record {
  unvisited : goal.unvisited-store_all_facts-loop-i l;
  columns : part_columns l.body l.parts ≡ part_columns l.body l.fn.parts;
  marked : AreMarked l.body (take l.i l.parts);
}
