use Rattle.std.proofs.lemmas.List.{drop-replicate}
use Rattle.ipc_scalar.proofs.below.pad_block.Goals as goal

pub returns : goal.returns
returns c = rw (c.copy_from_slice.ensures.after, drop-replicate)
