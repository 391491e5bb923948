use Rattle.std.proofs.Common.{w64}
use Rattle.std.proofs.lemmas.Int.{to_z-of_z}
use Rattle.job_print.proofs.texts.NumberFields.{signed_as_it_stands}
use Rattle.job_print.proofs.csv_fields.put_signed_field.Goals as goal

pub returns : goal.returns
returns c d =
    rw (signed_as_it_stands d.delimiter d.allowed.apart c.args.number c.ranges.number) (rw (to_z-of_z w64 c.args.number c.ranges.number) at
    c.put_i64.ensures.text)
