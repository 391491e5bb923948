use Rattle.ipc_text_csv.proofs.HexPairs.{letter_reads, other_fails}
use Rattle.ipc_text_csv.proofs.hexadecimal.digit_value.Goals as goal

pub returns-then-letter-lt6-clause-digit : goal.returns-then-letter-lt6-clause-digit
returns-then-letter-lt6-clause-digit c = λ _. letter_reads c.args.byte c.ranges.byte.fits c.if-number-lt10.false c.if-letter-lt6.true

pub returns-else-letter-lt6-clause-none : goal.returns-else-letter-lt6-clause-none
returns-else-letter-lt6-clause-none c = λ _. other_fails c.args.byte c.ranges.byte.fits c.if-number-lt10.false c.if-letter-lt6.false
