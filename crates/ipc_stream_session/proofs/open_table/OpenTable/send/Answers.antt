use Rattle.ipc_stream_session.proofs.Sent.{sends}
use Rattle.ipc_stream_session.proofs.open_table.OpenTable.send.Goals as goal

pub returns : goal.returns
returns c = sends c.args.self _ c.args.batch.now c.write_batch-sent.new.self c.write_batch-sent.result c.stage_after.result c.self.view_is
    c.self.invariant.0 c.write_batch-sent.ensures.sends c.write_batch-sent.ensures.judged c.stage_after.ensures
