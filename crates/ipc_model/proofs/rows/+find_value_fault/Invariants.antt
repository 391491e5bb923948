use Rattle.std.proofs.Common.{◌≡◌, map, drop}
use Rattle.ipc_model.specs.RowFaults.{faults, each_faults, items_faults, verdict}
use Rattle.ipc_model.proofs.rows.+find_value_fault.Given as goal

abbrev pub invariant-find_child_fault-loop-number : goal.invariant-find_child_fault-loop-number
invariant-find_child_fault-loop-number l =
    verdict (each_faults l.number (map faults (drop l.number l.fields)) (drop l.number l.values))
    ≡ verdict (each_faults 0 (map faults l.fields) l.values)

abbrev pub invariant-find_item_fault-loop-value : goal.invariant-find_item_fault-loop-value
invariant-find_item_fault-loop-value l =
    verdict (items_faults (faults l.child) (drop l.value-index l.values)) ≡ verdict (items_faults (faults l.child) l.values)
