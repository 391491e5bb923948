use Rattle.std.proofs.Common.{w64}
use Rattle.std.proofs.lemmas.Int.{to_z-of_z}
use Rattle.ipc_stream.proofs.CanonicalCopies.{sent_by}
use Rattle.ipc_stream.proofs.writer.StreamWriter.copy_dictionary.Goals as goal

pub returns : goal.returns
returns g c = rw (← c.self.view_is) (
    let stream = c.self.inside.stream in
    let same = to_z-of_z w64 c.args.id c.ranges.id in
    sent_by (record {
      written = g.W.Sink.written c.self.inside.sink;
      failures = g.W.Sink.failures c.self.inside.sink;
      limits = stream.limits;
      schema = stream.schema;
      kept = stream.kept;
      seed = stream.seed;
      failed = c.self.inside.failed;
    }) c.args.id c.args.bytes.now c.copy_dictionary.new.bytes c.args.numbers.now c.copy_dictionary.new.numbers
    c.copy_dictionary.result c.if-self.false (rw same at c.copy_dictionary.ensures.copied) c.copy_dictionary.ensures.kept
    (rw same at c.copy_dictionary.ensures.refused))
