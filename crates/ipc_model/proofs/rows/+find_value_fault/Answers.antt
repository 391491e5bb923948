use Rattle.std.proofs.Common.{ap, arith, rules}
use denote.Param.Weighed.{at_most}
use Rattle.ipc_model.specs.declared.schema.Field.{size-Field}
use Rattle.ipc_model.proofs.Counts.{count_at, length_counts}
use Rattle.ipc_model.proofs.Faults.{depth_at, short_inside}
use Rattle.ipc_model.proofs.rows.+find_value_fault.Goals as goal

pub find_value_fault-returns-in-Struct-Struct-clause-short : goal.find_value_fault-returns-in-Struct-Struct-clause-short
find_value_fault-returns-in-Struct-Struct-clause-short t c =
    let h = c.find_child_fault.ensures.short in search (rules, short_inside)

pub find_child_fault-find_value_fault-requires : goal.find_child_fault-find_value_fault-requires
find_child_fault-find_value_fault-requires t c =
    let fields = c.args.fields.now in
    let at = c.index-fields-number in
    let size = at_most size-Field fields c.loop-number.number at.result (omega arith) in
    let shallow = depth_at fields _ _ (omega arith) at.is in
    let few = count_at fields _ _ (omega arith) at.is in
    (omega (arith, size, ap size-Field at.is), (omega (arith, shallow), omega (arith, few)))

pub find_child_fault-overflow_cast-number : goal.find_child_fault-overflow_cast-number
find_child_fault-overflow_cast-number t c = omega (arith, length_counts c.args.fields.now)
