use Rattle.job_explain.proofs.Alone.{alone_answer}
use Rattle.job_explain.proofs.field_paths.has_alone.Goals as goal

pub returns : goal.returns
returns c = record {
  answer =
      alone_answer c.args.limits.now c.args.table.now c.check_alone.result c.args.fault.now c.is_same.result c.check_alone.ensures
      (rw c.err.ensures.value at c.is_same.ensures.memory) (rw c.err.ensures.value at c.is_same.ensures.same);
}
