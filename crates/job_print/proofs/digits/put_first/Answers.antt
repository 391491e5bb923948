use Rattle.std.proofs.Common.{arith}
use Rattle.std.proofs.lemmas.Fmt.{decimal_nonempty}
use Rattle.job_print.proofs.Fronts.{first_front}
use Rattle.job_print.proofs.digits.put_first.Goals as goal

pub overflow_shr-digits : goal.overflow_shr-digits
overflow_shr-digits c = omega (
  arith,
  c.digits_and_zeros-digits.ensures.zeros,
  decimal_nonempty c.args.number (omega (arith, c.requires.digits)),
)

pub returns-clause-text : goal.returns-clause-text
returns-clause-text c =
    first_front c.args.text.now _ _ _ c.args.at c.digits_and_zeros-digits.result.1 c.digits_and_zeros-digits.result.0 c.args.number
    (omega (arith, c.requires.room)) c.requires.digits c.put_bytes.ensures c.to_le_bytes.ensures c.digits_and_zeros-digits.ensures.digits
    c.digits_and_zeros-digits.ensures.zeros
