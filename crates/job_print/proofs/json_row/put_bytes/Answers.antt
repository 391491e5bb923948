use Rattle.std.proofs.Common.{append_assoc, refl}
use Rattle.job_print.proofs.texts.OwnBytes.{own_digits}
use Rattle.job_print.proofs.json_row.put_bytes.Goals as goal

pub returns : goal.returns
returns c =
    rw (
      c.put-2.ensures.text,
      c.in_ok-put_hexadecimal.ensures.text,
      c.put.ensures.text,
      own_digits c.args.bytes.now (λ k. (c.type_inv.bytes k).fits),
    )
    (simp append_assoc refl)
