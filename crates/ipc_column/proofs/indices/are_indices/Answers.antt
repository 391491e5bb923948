use Rattle.ipc_column.proofs.Indexed.{slots_good}
use Rattle.ipc_column.proofs.indices.are_indices.Goals as goal

pub returns : goal.returns
returns c = λ e.
    slots_good c.args.bits c.args.signed c.args.count c.args.indices.now c.args.slots (rw c.width.ensures at (c.indices_below.ensures.0 e))
