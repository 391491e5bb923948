use Rattle.std.proofs.Common.{◌≡◌, ◌∙◌, ap, length, get_or, append_assoc, arith, refl, rules}
use Rattle.job_print.proofs.numbers.HexDigits.{digits_from, two_digits, all_digits}
use Rattle.job_print.proofs.hexadecimal.put_digits.Goals as goal

pub loop-byte-preserved : goal.loop-byte-preserved
loop-byte-preserved c =
    let b = get_or c.args.bytes.now c.loop-byte.byte-index 0 in
    let two : length c.digits_of.result ≡ 2 = ap length c.digits_of.ensures ∙ two_digits b in
    let before = c.loop-byte.invariant.end in
    let end = c.put_word-end.ensures.end in
    record {
      end = omega (arith, two, before, end);
      room = search rules;
      text = rw (c.put_word-end.ensures.text, c.digits_of.ensures)
          (simp append_assoc (rw (digits_from c.args.bytes.now c.loop-byte.byte-index b c.loop-byte-test.true refl)
          at c.loop-byte.invariant.text));
    }

pub returns-clause-text : goal.returns-clause-text
returns-clause-text c = all_digits c.args.bytes.now _ _ c.loop-byte.byte-index c.loop-byte-test.false c.loop-byte.invariant.text
