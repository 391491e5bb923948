use Rattle.std.proofs.Common.{ℕ, List, Option}
use Rattle.ipc_model.specs.declared.limits.Limits.{Limits}
use Rattle.ipc_stream_read.specs.Held.{HeldSoFar}
use Rattle.ipc_stream_read.specs.Reader.{Opens}
use Rattle.ipc_stream_read.proofs.Reporting.{Progressed}
use Rattle.job_rewrite.proofs.Batches.{Copied}
use Rattle.job_rewrite.proofs.copying.copy_batches.Given as goal

-- the batches so far were read, sent and reported, within the maximum of held bytes
abbrev pub invariant-loop-batch : goal.invariant-loop-batch
invariant-loop-batch g l = record {
  copied : Copied l.fn.options l.batches l.rows l.fn.stream l.stream (g.O.Output.writer l.fn.output) (g.O.Output.writer l.output)
      (g.O.Output.room l.fn.output) (g.O.Output.room l.output);
  reported : (limits : Limits) (start : Option (List ℕ)) → Opens limits start l.fn.stream
      → Progressed limits start l.batches l.rows l.stream (g.P.Progress.reports l.fn.progress) (g.P.Progress.reports l.progress);
  held : (limits : Limits) (start : Option (List ℕ)) → HeldSoFar limits l.fn.options.max_held start l.fn.stream
      → HeldSoFar limits l.fn.options.max_held start l.stream;
}

-- each batch leaves fewer bytes to come
abbrev pub decreases-loop-batch : goal.decreases-loop-batch
decreases-loop-batch g l = l.stream.bound
