use Rattle.std.proofs.Common.{take}
use Rattle.job_print.specs.Forms.{HaveLines, line_of}
use Rattle.job_print.specs.Output.{output, Puts}
use Rattle.job_print.specs.Rows.{lines}
use Rattle.job_print.proofs.batch_text.print_batch_rows.Given as goal

-- the first rows were put
abbrev pub invariant-loop-row : goal.invariant-loop-row
invariant-loop-row g l = record {
  have : HaveLines l.form l.fields (take l.row (take l.count l.batch.rows));
  put : Puts (output (g.W.Sink.written l.fn.sink) (g.W.Sink.failures l.fn.sink) l.fn.lines)
      (output (g.W.Sink.written l.sink) (g.W.Sink.failures l.sink) l.lines)
      (lines (line_of l.form l.fields) (take l.row (take l.count l.batch.rows)));
}
