use Rattle.std.proofs.Common.{◌≡◌, ◌≤◌, ◌+◌, ◌-◌, drop}
use Rattle.std.specs.Prelude.{true}
use Rattle.ipc_model.specs.declared.fault.Fault.{Fault}
use Rattle.ipc_column.specs.checks.Checks.{good, good_slot, all_slots}
use Rattle.ipc_column.specs.Lent.{AreSlots}
use Rattle.ipc_column.specs.Views.{part_columns, one, column_of, children_of}
use Rattle.ipc_column.specs.checks.Weights.{visits}
use Rattle.ipc_column.proofs.visit.+visit.Given as goal

abbrev pub invariant-check_all_values-loop-part : goal.invariant-check_all_values-loop-part
invariant-check_all_values-loop-part l = record {
  good : (why : Fault) → good why (part_columns l.body (drop l.part-index l.parts)) l.from l.to
      ≡ good why (part_columns l.body l.parts) l.from l.to;
  cost : l.tests + visits (part_columns l.body (drop l.part-index l.parts)) l.from l.to
      ≤ l.fn.tests + visits (part_columns l.body l.parts) l.from l.to;
  slots : AreSlots (part_columns l.body (drop l.part-index l.parts)) l.from l.to;
}

abbrev pub invariant-check_slots-loop-slot : goal.invariant-check_slots-loop-slot
invariant-check_slots-loop-slot l = record {
  good : (why : Fault) → all_slots (good_slot why (good why (children_of l.body l.part)) (column_of l.body l.part)) l.from
      (l.slot - l.from) ≡ true;
  cost : l.tests ≤ l.fn.tests + visits (one l.body l.part) l.from l.slot;
}
