use Rattle.std.proofs.Common.{◌≡◌, map, drop}
use Rattle.ipc_model.specs.RowFaults.{faults, each_faults, items_faults, verdict}
use Rattle.ipc_model.proofs.rows.+fits.Given as goal

abbrev pub invariant-each_fits-loop-number : goal.invariant-each_fits-loop-number
invariant-each_fits-loop-number l =
    verdict (each_faults l.number (map faults (drop l.number l.fields)) (drop l.number l.values))
    ≡ verdict (each_faults 0 (map faults l.fields) l.values)

abbrev pub invariant-all_fit-loop-value : goal.invariant-all_fit-loop-value
invariant-all_fit-loop-value l =
    verdict (items_faults (faults l.child) (drop l.value-index l.values)) ≡ verdict (items_faults (faults l.child) l.values)
