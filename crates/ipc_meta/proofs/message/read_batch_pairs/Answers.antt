use Rattle.ipc_meta.proofs.BatchPairs.{batch_pairs_found, batch_pairs_only, batch_pairs_told}
use Rattle.ipc_meta.proofs.message.read_batch_pairs.Goals as goal

pub returns-clause-finds : goal.returns-clause-finds
returns-clause-finds c = batch_pairs_found c.args.limits.now c.args.root.now _ c.read_pairs.result c.read_pairs.ensures

pub returns-clause-only : goal.returns-clause-only
returns-clause-only c = batch_pairs_only c.args.limits.now c.args.root.now _ c.read_pairs.result c.read_pairs.ensures

pub returns-clause-refused : goal.returns-clause-refused
returns-clause-refused c = batch_pairs_told c.args.limits.now c.args.root.now _ c.read_pairs.result c.read_pairs.ensures
