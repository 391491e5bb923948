use Rattle.std.proofs.Common.{subst, ℤ, w64}
use Rattle.std.proofs.lemmas.Int.{to_z-of_z}
use Rattle.ipc_stream_session.specs.Writes.{SendsBuffers}
use Rattle.ipc_stream_session.proofs.write_session.WriteSession.send_buffers.Goals as goal

pub returns : goal.returns
returns c = record {
  after = c.try_send_buffers-answer.new.self;
  answer = c.try_send_buffers-answer.result;
  called = subst (λ (rows : ℤ). SendsBuffers rows c.args.nodes.now c.args.buffers.now c.args.body.now c.args.self.now
      c.try_send_buffers-answer.new.self c.try_send_buffers-answer.result)
      (to_z-of_z w64 c.args.rows c.ranges.rows) c.try_send_buffers-answer.ensures;
  report = c.report.ensures;
}
