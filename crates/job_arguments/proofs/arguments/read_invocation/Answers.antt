use Rattle.job_arguments.specs.Arguments.{HasWrongValue}
use Rattle.job_arguments.proofs.LineWords.{value_wrong}
use Rattle.job_arguments.proofs.arguments.read_invocation.Goals as goal

pub returns-in_err-read_count-clause-refused : goal.returns-in_err-read_count-clause-refused
returns-in_err-read_count-clause-refused c =
    value_wrong _ _ _ c.from_residual-in_err-read_count.result (λ h. HasWrongValue.held h)
    c.from_residual-in_err-read_count.ensures.1 c.in_err-read_count.ensures.refused

pub returns-in_err-read_label-clause-refused : goal.returns-in_err-read_label-clause-refused
returns-in_err-read_label-clause-refused c =
    value_wrong _ _ _ c.from_residual-in_err-read_label.result (λ h. HasWrongValue.label h)
    c.from_residual-in_err-read_label.ensures.1 c.in_err-read_label.ensures.refused
