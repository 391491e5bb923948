use Rattle.std.proofs.Common.{◌∙◌, ap}
use Rattle.ipc_stream.proofs.GatheredBytes.{joined_ended}
use Rattle.ipc_stream.proofs.gathering.Gathered.end_joined.Goals as goal

pub returns-in_ok-push-clause-same : goal.returns-in_ok-push-clause-same
returns-in_ok-push-clause-same c =
    joined_ended _ _ _ _ _ c.in_ok-push.ensures.items (ap (λ v. v.items) c.replace-joined.ensures.value)
    (ap (λ v. v.items) c.replace-joined.ensures.after ∙ c.new.ensures.items)
