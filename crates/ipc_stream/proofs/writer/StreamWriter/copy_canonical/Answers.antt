use Rattle.ipc_stream.proofs.CanonicalCopies.{copied_by}
use Rattle.ipc_stream.proofs.writer.StreamWriter.copy_canonical.Goals as goal

pub returns : goal.returns
returns g c = rw (← c.self.view_is) (
    let stream = c.self.inside.stream in
    copied_by (record {
      written = g.W.Sink.written c.self.inside.sink;
      failures = g.W.Sink.failures c.self.inside.sink;
      limits = stream.limits;
      schema = stream.schema;
      kept = stream.kept;
      seed = stream.seed;
      failed = c.self.inside.failed;
    }) c.args.batch.now.rows c.args.bytes.now c.copy_canonical.new.bytes c.args.numbers.now c.copy_canonical.new.numbers
    c.copy_canonical.result c.if-self.false c.copy_canonical.ensures.copied c.copy_canonical.ensures.kept c.copy_canonical.ensures.refused)
