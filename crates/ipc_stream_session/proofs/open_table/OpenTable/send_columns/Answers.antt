use Rattle.ipc_stream_session.proofs.Sent.{sends}
use Rattle.ipc_stream_session.proofs.open_table.OpenTable.send_columns.Goals as goal

pub returns : goal.returns
returns c = sends c.args.self _ _ c.write_columns-sent.new.self c.write_columns-sent.result c.stage_after.result c.self.view_is
    c.self.invariant.0 c.write_columns-sent.ensures.sends c.write_columns-sent.ensures.judged c.stage_after.ensures
