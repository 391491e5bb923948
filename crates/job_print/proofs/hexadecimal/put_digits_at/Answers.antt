use Rattle.std.proofs.Common.{◌≡◌, ◌∙◌, ◌*◌, ap, arith, length, rules}
use Rattle.hex.specs.Hex.{lower_digits}
use Rattle.hex.proofs.HexLemmas.{length-encode_with}
use Rattle.job_print.proofs.numbers.HexDigits.{sixteen_written}
use Rattle.job_print.proofs.hexadecimal.put_digits_at.Goals as goal

pub loop-first-preserved : goal.loop-first-preserved
loop-first-preserved c =
    let parts = c.in-Some.ensures.cases in
    let twice : length c.sixteen_digits.result ≡ 2 * length c.in-Some.first.now =
    ap length c.sixteen_digits.ensures ∙ length-encode_with lower_digits c.in-Some.first.now in
    let before = c.loop-first.invariant.end in
    let end = c.put_word-end.ensures.end in
    record {
      end = omega (arith, twice, before, end, parts.2);
      room = search rules;
      text = sixteen_written c.loop-first.rest.now c.in-Some.first.now c.in-Some.more.now _ _ _ parts.0 parts.1
          (rw c.sixteen_digits.ensures at c.put_word-end.ensures.text) c.loop-first.invariant.text;
    }
