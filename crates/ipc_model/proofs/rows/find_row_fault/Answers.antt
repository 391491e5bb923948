use Rattle.std.proofs.Common.{arith, ◌≡◌, length}
use Rattle.ipc_model.proofs.Counts.{few_counted}
use Rattle.ipc_model.proofs.Depths.{at_most_greatest}
use Rattle.ipc_model.proofs.FitsLemmas.{row_fits}
use Rattle.ipc_model.proofs.rows.find_row_fault.Goals as goal

pub find_child_fault-requires-clause-shallow : goal.find_child_fault-requires-clause-shallow
find_child_fault-requires-clause-shallow c = rw c.as_slice.ensures (at_most_greatest c.args.schema.now c.requires)

pub find_child_fault-requires-clause-few : goal.find_child_fault-requires-clause-few
find_child_fault-requires-clause-few c = rw c.as_slice.ensures (few_counted c.args.schema.now c.requires)

pub returns-clause-fits : goal.returns-clause-fits
returns-clause-fits c =
    let wide : length c.args.row.now ≡ length c.args.schema.now.fields = omega arith in
    row_fits c.args.schema.now.fields c.args.row.now _ wide (rw (← c.as_slice.ensures) c.find_child_fault.ensures.verdict)
