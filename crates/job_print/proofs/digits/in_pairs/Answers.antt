use Rattle.std.proofs.Common.{◌/◌, ◌%◌, arith}
use Rattle.job_print.proofs.numbers.Parts.{hundreds_of_halves}
use Rattle.job_print.proofs.digits.in_pairs.Goals as goal

pub returns : goal.returns
returns c =
    let n = c.args.number in
    omega (
      arith,
      c.requires,
      c.in_fours-fours.ensures,
      hundreds_of_halves c.in_fours-fours.result (n / 10000) (n % 10000) (omega (arith, c.requires)) (omega arith) c.in_fours-fours.ensures,
    )
