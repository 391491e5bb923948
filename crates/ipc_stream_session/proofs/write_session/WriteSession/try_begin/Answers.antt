use Rattle.ipc_stream_session.proofs.Begun.{begun}
use Rattle.ipc_stream_session.proofs.write_session.WriteSession.try_begin.Goals as goal

pub returns-in-Ok-start : goal.returns-in-Ok-start
returns-in-Ok-start c =
    begun _ _ _ _ c.in_ok-check_new.ensures c.in-Ok.ensures.read c.in-Ok-start.ensures.started
