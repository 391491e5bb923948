use Rattle.std.proofs.Common.{append_assoc, get_or, refl}
use Rattle.job_print.proofs.texts.Quotes.{all_between, between_from}
use Rattle.job_print.proofs.csv_fields.put_quoted_bytes.Goals as goal

pub loop-byte-preserved : goal.loop-byte-preserved
loop-byte-preserved c =
    let b = get_or c.args.field.now c.loop-byte.byte-index 0 in
    record {
      text = rw (c.put_quoted_byte.ensures, c.reserve.ensures.text)
          (simp append_assoc (rw (between_from c.args.field.now c.loop-byte.byte-index b c.loop-byte-test.true refl)
          at c.loop-byte.invariant.text));
    }

pub returns : goal.returns
returns c = all_between c.args.field.now _ _ c.loop-byte.byte-index c.loop-byte-test.false c.loop-byte.invariant.text
