use Rattle.ipc_stream_read.proofs.Tables.{Batches}
use Rattle.ipc_stream_read.proofs.table.read_batches.Given as goal

abbrev pub invariant-loop-batches : goal.invariant-loop-batches
invariant-loop-batches g l =
    Batches (g.R.Source.remaining l.fn.source) (g.R.Source.remaining l.source) (g.R.Source.failures l.fn.source)
    (g.R.Source.failures l.source) l.taken l.fn.decoder l.decoder l.batches.items

abbrev pub decreases-loop-batches : goal.decreases-loop-batches
decreases-loop-batches g l = g.R.Source.bound l.source
