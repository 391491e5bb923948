use Rattle.std.proofs.Common.{inr, refl}
use Rattle.job_arguments.specs.Arguments.{HasWrongValue}
use Rattle.job_arguments.proofs.LineWords.{value_wrong}
use Rattle.job_arguments.proofs.arguments.read_rewrite.Goals as goal

pub returns-in_err-read_limits-clause-refused : goal.returns-in_err-read_limits-clause-refused
returns-in_err-read_limits-clause-refused c =
    value_wrong _ _ _ c.from_residual.result (λ h. HasWrongValue.limit (inr (inr (inr refl))) h)
    c.from_residual.ensures.1 c.in_err-read_limits.ensures.refused

pub returns-in_err-read_output-clause-refused : goal.returns-in_err-read_output-clause-refused
returns-in_err-read_output-clause-refused c =
    value_wrong _ _ _ c.from_residual-in_err-read_output.result (λ h. HasWrongValue.output refl h)
    c.from_residual-in_err-read_output.ensures.1 c.in_err-read_output.ensures.refused
