use Rattle.std.proofs.Common.{◌++◌, ◌∙◌, sym, ap, refl, List, ℕ}
use Rattle.ipc_stream.proofs.GatheredBytes.{ended_bytes, joined_ended}
use Rattle.ipc_stream.proofs.gathering.Gathered.add.Goals as goal

pub returns : goal.returns
returns c =
    joined_ended _ _ _ _ _ c.in_ok-push.ensures.items refl c.in_ok-end_joined.ensures.ended
    ∙ ap (λ (z : List ℕ). z ++ c.args.bytes.now)
    (sym (ended_bytes c.end_joined.new.self c.in_ok-end_joined.ensures.ended) ∙ c.in_ok-end_joined.ensures.same)
