use Rattle.std.proofs.Common.{inl}
use Rattle.job_explain.proofs.field_paths.field_line.Goals as goal

pub returns-in_default : goal.returns-in_default
returns-in_default c = record {
  line =
      inl (λ t here u e h. c.in_default.ensures t here, c.new-line.ensures.items);
}
