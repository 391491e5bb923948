use Rattle.ipc_stream.proofs.GatheredBytes.{gathered_message}
use Rattle.ipc_stream.proofs.gathering.Gathered.add_messages.Goals as goal

pub loop-message-preserved : goal.loop-message-preserved
loop-message-preserved c =
    gathered_message _ _ _ _ _ _ c.args.messages.now c.loop-message.message-index c.message-item.result c.loop-message.invariant
    c.loop-message-test.true c.message-item.is c.as_slice.ensures.value c.as_slice-in-loop-message.ensures.value c.in_ok-add.ensures
    c.in_ok-add-2.ensures
