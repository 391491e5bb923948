use denote.Param.Send.{sendable}
use Rattle.ipc_stream_session.proofs.Sendable.{reader_send, session_send}
use Rattle.ipc_stream_session.proofs.threads.may_change_threads.Goals as goal

pub may_move-requires-2-send-T : goal.may_move-requires-2-send-T
may_move-requires-2-send-T c κs = search (reader_send, sendable)

pub may_move-requires-3-send-T : goal.may_move-requires-3-send-T
may_move-requires-3-send-T c κs = search (session_send, sendable)
