use Rattle.job_explain.proofs.Fronts.{front_after, taken_few}
use Rattle.job_explain.proofs.message_record.MessageRecord.record.Goals as goal

pub kept_after-requires : goal.kept_after-requires
kept_after-requires c = taken_few _ _ _ _ _ c.feed-outcome.ensures.feeds

pub invariant_of-result-clause-front_kept : goal.invariant_of-result-clause-front_kept
invariant_of-result-clause-front_kept c =
    front_after c.args.self.limits c.args.self.frames.progress _ c.args.self.front.items c.args.piece.now _ _ c.feed-outcome.result
    c.args.self.front_kept (rw c.args.self.same_limits at c.feed-outcome.ensures.feeds) c.in_ok-front.ensures
