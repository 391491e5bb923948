use Rattle.std.proofs.Common.{◌∙◌, ap, arith, List, ℕ, Some}
use Rattle.job_rewrite.proofs.InMemory.{schema_sent}
use Rattle.job_rewrite.proofs.bounded.Bounded.start.Goals as goal

pub returns-in-Ok-send-clause-started : goal.returns-in-Ok-send-clause-started
returns-in-Ok-send-clause-started g c =
    schema_sent _ _ _ _ _ _ _ _ _ _ _ _ _ (c.new-memory.ensures.holds ∙ ap (λ (l : List ℕ). Some l) c.new.ensures.items)
    c.in-Ok.ensures.started c.take_messages-message.ensures.taken c.take_messages-message.ensures.emptied
    (omega (arith, c.in-Some.ensures.some)) (rw c.deref.ensures.value at c.in-Ok-send.ensures.ok)
    (rw c.deref.ensures.value at c.in-Ok-send.ensures.called)
