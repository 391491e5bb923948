use Rattle.std.proofs.Common.{take}
use Rattle.job_print.proofs.texts.NullTexts.{plain_chars}
use Rattle.job_print.proofs.csv_fields.begins_plainly.Goals as goal

pub returns : goal.returns
returns c = λ h.
    plain_chars c.args.dialect.now (take c.args.len c.args.bytes.now)
    ((rw (c.as_bytes.ensures.value, c.null.ensures) at c.differs_from_null.ensures) h)
