use Rattle.ipc_device.proofs.SentBytes.{sent_more}
use Rattle.ipc_device.proofs.send.send_all.Goals as goal

pub loop-sent-preserved : goal.loop-sent-preserved
loop-sent-preserved g c =
    sent_more _ _ _ _ _ _ c.args.bytes.now c.loop-sent.sent c.in_ok-count.count c.loop-sent.invariant c.in_ok-count.ensures.count c.in_ok-count.ensures.bytes
    c.in_ok-count.ensures.failures
