use Rattle.std.proofs.Common.{Some}
use Rattle.ipc_device.specs.Failures.{count_or}
use Rattle.ipc_stream_session.proofs.Sent.{fails}
use Rattle.ipc_stream_session.proofs.open_table.OpenTable.finish.Goals as goal

pub returns : goal.returns
returns c = fails c.args.self _ (Some c.in-Err.sink.bytes.items) c.ready_of-in-Err.result (count_or c.in-Err.sink.failed 0)
    c.in-Err.fault c.self.view_is c.ready_of-in-Err.ensures c.in-Err.ensures.refused
