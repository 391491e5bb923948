use Rattle.std.proofs.Common.{◌/◌, ◌%◌, arith}
use Rattle.job_print.proofs.numbers.Parts.{tens_of_quarters}
use Rattle.job_print.proofs.digits.in_digits.Goals as goal

pub returns : goal.returns
returns c =
    let n = c.args.number in
    omega (
      arith,
      c.requires,
      c.in_pairs-pairs.ensures,
      tens_of_quarters c.in_pairs-pairs.result (n / 1000000) (n / 10000 % 100) (n / 100 % 100) (n % 100) (omega (arith, c.requires))
          (omega arith) (omega arith) (omega arith) c.in_pairs-pairs.ensures,
    )
