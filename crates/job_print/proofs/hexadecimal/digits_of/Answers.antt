use Rattle.job_print.proofs.numbers.HexDigits.{digits_are}
use Rattle.job_print.proofs.hexadecimal.digits_of.Goals as goal

pub returns : goal.returns
returns c = rw (c.hex_digit.ensures, c.hex_digit-2.ensures) (digits_are c.args.byte c.ranges.byte.fits)
