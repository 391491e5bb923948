use Rattle.std.proofs.Common.{ℕ, List, Option}
use Rattle.ipc_model.specs.declared.limits.Limits.{Limits}
use Rattle.ipc_stream_read.specs.Held.{HeldSoFar}
use Rattle.ipc_stream_read.specs.Reader.{Opens}
use Rattle.ipc_stream_read.proofs.Reporting.{Progressed}
use Rattle.job_print.specs.Output.{output}
use Rattle.job_print.proofs.streams.BatchesRead.{Batches}
use Rattle.job_print.proofs.printing.print_batches.Given as goal

-- the batches so far were printed, up to the limit, and reported, within the maximum of held bytes
abbrev pub invariant-loop-form : goal.invariant-loop-form
invariant-loop-form g l = record {
  printed : Batches l.options l.tally l.fn.stream l.stream
      (output (g.W.Sink.written l.fn.sink) (g.W.Sink.failures l.fn.sink) l.fn.lines)
      (output (g.W.Sink.written l.sink) (g.W.Sink.failures l.sink) l.lines);
  reported : (limits : Limits) (start : Option (List ℕ)) → Opens limits start l.fn.stream
      → Progressed limits start l.tally.batches l.tally.rows l.stream (g.P.Progress.reports l.fn.progress)
      (g.P.Progress.reports l.progress);
  held : (limits : Limits) (start : Option (List ℕ)) → HeldSoFar limits l.options.max_held start l.fn.stream
      → HeldSoFar limits l.options.max_held start l.stream;
}

-- each batch leaves fewer bytes to come
abbrev pub decreases-loop-form : goal.decreases-loop-form
decreases-loop-form g l = l.stream.bound
