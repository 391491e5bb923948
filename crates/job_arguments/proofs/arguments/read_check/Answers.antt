use Rattle.std.proofs.Common.{refl, inl}
use Rattle.job_arguments.specs.Arguments.{HasWrongValue}
use Rattle.job_arguments.proofs.LineWords.{value_wrong}
use Rattle.job_arguments.proofs.arguments.read_check.Goals as goal

pub returns-in_err-limits-clause-refused : goal.returns-in_err-limits-clause-refused
returns-in_err-limits-clause-refused c =
    value_wrong _ _ _ c.from_residual.result (λ h. HasWrongValue.limit (inl refl) h) c.from_residual.ensures.1
    c.in_err-limits.ensures.refused
