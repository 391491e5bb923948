use Rattle.std.proofs.Common.{FitsSigned, w64}
use Rattle.std.proofs.lemmas.Int.{to_z-of_z}
use Rattle.ipc_text_temporal.proofs.texts.put_any_timestamp.Goals as goal

pub returns-in-Millisecond : goal.returns-in-Millisecond
returns-in-Millisecond c =
    let fits : FitsSigned w64 c.args.number = c.ranges.number in
    rw c.in-Millisecond.is (rw (to_z-of_z w64 c.args.number fits) at c.put_milliseconds.ensures)

pub returns-in-Microsecond : goal.returns-in-Microsecond
returns-in-Microsecond c =
    let fits : FitsSigned w64 c.args.number = c.ranges.number in
    rw c.in-Microsecond.is (rw (to_z-of_z w64 c.args.number fits) at c.put_microseconds.ensures)

pub returns-in-Nanosecond : goal.returns-in-Nanosecond
returns-in-Nanosecond c =
    let fits : FitsSigned w64 c.args.number = c.ranges.number in
    rw c.in-Nanosecond.is (rw (to_z-of_z w64 c.args.number fits) at c.put_nanoseconds.ensures)
