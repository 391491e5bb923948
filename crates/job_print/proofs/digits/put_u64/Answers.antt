use Rattle.std.proofs.Common.{◌≡◌, ◌++◌, ◌/◌, take, arith}
use Rattle.std.specs.Fmt.{decimal}
use Rattle.job_print.proofs.Fronts.{joined}
use Rattle.job_print.proofs.digits.put_u64.Goals.{then-high-lt-EIGHT_DIGITS, else-high-lt-EIGHT_DIGITS}
use Rattle.job_print.proofs.digits.put_u64.Goals as goal

pub returns-clause-text : goal.returns-clause-text
returns-clause-text c = elim c.if-high-lt-EIGHT_DIGITS.branch [
  | then-high-lt-EIGHT_DIGITS w ↦
      let front : take c.if-high-lt-EIGHT_DIGITS.middle c.if-high-lt-EIGHT_DIGITS.text
      ≡ take c.args.at c.args.text.now ++ decimal (c.args.number / 100000000) =
      rw (w.middle-is, w.text-is) w.put_first-middle.ensures.text in
      joined _ _ _ c.args.number c.if-number-lt-EIGHT_DIGITS.false (omega arith) front c.put_eight.ensures.text
  | else-high-lt-EIGHT_DIGITS w ↦
      let high = joined _ _ _ (c.args.number / 100000000) w.if-high-lt-EIGHT_DIGITS.false
      (omega arith) w.put_first-first.ensures.text w.put_eight-middle.ensures.text in
      let front : take c.if-high-lt-EIGHT_DIGITS.middle c.if-high-lt-EIGHT_DIGITS.text
      ≡ take c.args.at c.args.text.now ++ decimal (c.args.number / 100000000) = rw (w.middle-is, w.text-is) high in
      joined _ _ _ c.args.number c.if-number-lt-EIGHT_DIGITS.false (omega arith) front c.put_eight.ensures.text
]
