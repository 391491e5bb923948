use Rattle.std.proofs.Common.{refl}
use Rattle.ipc_column.proofs.visited.Leads.{found_again}
use Rattle.ipc_column.proofs.slot_view.slots_of.Goals as goal

pub invariant_of-result : goal.invariant_of-result
invariant_of-result c =
    rw c.deref.ensures.value
    (found_again c.args.body.now c.args.part.now c.bytes_at.result.now c.bytes_at-2.result.now c.bytes_at-3.result.now _
    c.bytes_at.ensures c.bytes_at-2.ensures c.bytes_at-3.ensures refl c.requires)
