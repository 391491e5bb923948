use Rattle.std.proofs.Common.{arith}
use Rattle.std.specs.Str.Parse.{ParsesUnsigned, ExplainsUnsignedError, HasUnsignedDigitsIfOk}
use Rattle.job_arguments.proofs.LineWords.{no_number, other_number, some_number}
use Rattle.job_arguments.proofs.arguments.number_option.Goals as goal
use Rattle.job_arguments.proofs.arguments.number_option.Goals.{else-least-number-via-then-least-number+else-number-greatest}
use Rattle.job_arguments.proofs.arguments.number_option.Goals.{else-least-number-via-else-least-number}

pub returns-in_err-number-clause-none : goal.returns-in_err-number-clause-none
returns-in_err-number-clause-none c = λ is.
    no_number (λ bs r. ParsesUnsigned 64 10 bs r × ExplainsUnsignedError 10 bs r × HasUnsignedDigitsIfOk bs r) (λ u x g. g.0) _ _ _ _
    c.ranges.greatest.fits c.in_err-number.ensures.value

pub returns-then-number-greatest-clause-some : goal.returns-then-number-greatest-clause-some
returns-then-number-greatest-clause-some c =
    some_number (λ bs r. ParsesUnsigned 64 10 bs r × ExplainsUnsignedError 10 bs r × HasUnsignedDigitsIfOk bs r) (λ u x g. g.0) _ _ _ _
    _ c.in_ok-number.ensures.none c.in_ok-number.ensures.value c.if-least-number.true c.if-number-greatest.true

pub returns-else-least-number-clause-none : goal.returns-else-least-number-clause-none
returns-else-least-number-clause-none c = λ is.
    other_number (λ bs r. ParsesUnsigned 64 10 bs r × ExplainsUnsignedError 10 bs r × HasUnsignedDigitsIfOk bs r) (λ u x g. g.0) _ _ _ _
    _ c.in_ok-number.ensures.value
    (λ above below.
    elim c.else-least-number.branch [
      | else-least-number-via-then-least-number+else-number-greatest w ↦ absurd (omega arith)
      | else-least-number-via-else-least-number w ↦ absurd (omega arith)
    ])
