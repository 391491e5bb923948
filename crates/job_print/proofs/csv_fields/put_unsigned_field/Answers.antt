use Rattle.job_print.proofs.texts.NumberFields.{unsigned_as_it_stands}
use Rattle.job_print.proofs.csv_fields.put_unsigned_field.Goals as goal

pub returns : goal.returns
returns c d = rw (unsigned_as_it_stands d.delimiter d.allowed.apart c.args.number c.ranges.number.fits)
    c.put_u64.ensures
