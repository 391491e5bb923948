use Rattle.std.proofs.Common.{arith}
use Rattle.job_rewrite.proofs.InMemory.{messages_sent}
use Rattle.job_rewrite.proofs.bounded.BoundedOutput.write.Goals as goal

pub returns : goal.returns
returns g c = record {
  writes = messages_sent _ _ _ _ _ _ _ _ _ _ _ c.args.self.now.emptied c.in_default.ensures.sends c.in_default.ensures.judged
      c.take_messages-messages.ensures.taken c.take_messages-messages.ensures.emptied (omega (arith, c.in-Some.ensures.some))
      (rw c.deref.ensures.value at c.in_ok-send.ensures.ok) c.requires.sink c.in_ok-send.ensures.failures;
}
