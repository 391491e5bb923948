use Rattle.ipc_meta.proofs.written.WrittenTrees.{tree_is}
use Rattle.ipc_meta.proofs.slots.table_of.Goals as goal

pub returns : goal.returns
returns c = tree_is _ _ c.from_vec.ensures
