use Rattle.std.proofs.Common.{refl, inr, ap, length, Some}
use Rattle.hex.specs.Hex.{encode_lower}
use Rattle.ipc_text_csv.specs.RowCsv.{null_text}
use Rattle.ipc_text_csv.proofs.NullText.{digits_apart, kept_text, no_digits, no_text}
use Rattle.ipc_text_csv.proofs.PlainDigits.{digits_as_they_stand}
use Rattle.job_print.proofs.csv_fields.put_bytes_field.Goals as goal

pub returns-then-are_empty : goal.returns-then-are_empty
returns-then-are_empty c =
    let h = rw (c.as_bytes.ensures.value, c.null.ensures) at (c.are_empty.ensures.empty c.if-are_empty.true) in
    let none = no_digits c.args.bytes.now (null_text c.args.dialect.now) (ap length h.0) (ap length h.1) in
    (inr (refl, no_text c.args.dialect.now (encode_lower c.args.bytes.now) none), λ _. refl)

pub returns : goal.returns
returns c =
    let some = rw (c.as_bytes.ensures.value, c.null.ensures) at (c.are_empty.ensures.other c.if-are_empty.false) in
    rw (
      kept_text c.args.dialect.now (encode_lower c.args.bytes.now)
          (digits_apart c.args.dialect.now c.args.bytes.now (λ i. (c.type_inv.bytes i).fits) some),
      digits_as_they_stand c.args.dialect.now.delimiter c.args.dialect.now.allowed.apart c.args.bytes.now,
    )
    (ap Some c.in_ok-put_hexadecimal.ensures.text)
