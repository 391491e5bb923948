use Rattle.ipc_stream_read.proofs.PulledEvents.{Pulling}
use Rattle.ipc_stream_read.proofs.source_reading.pull_within.Given as goal

abbrev pub invariant-loop-most_held : goal.invariant-loop-most_held
invariant-loop-most_held g l =
    Pulling l.fn.most_held (g.R.Source.remaining l.fn.source) (g.R.Source.remaining l.source) (g.R.Source.bound l.fn.source)
    (g.R.Source.bound l.source)
    (g.R.Source.failures l.fn.source) (g.R.Source.failures l.source) l.fn.taken l.taken l.fn.decoder l.decoder

abbrev pub decreases-loop-most_held : goal.decreases-loop-most_held
decreases-loop-most_held g l = g.R.Source.bound l.source
