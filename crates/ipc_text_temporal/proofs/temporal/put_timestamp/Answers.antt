use Rattle.std.proofs.Common.{rules, arith, to_z, of_z, w64}
use Rattle.ipc_text_temporal.proofs.Placed.{timestamp_placed, timestamp_lacks}
use Rattle.ipc_text_temporal.proofs.temporal.put_timestamp.Goals as goal

pub returns : goal.returns
returns c =
    timestamp_placed c.args.unit _ c.args.number (to_z w64 (of_z w64 c.day_and_time-day.result.0)) c.day_and_time-day.result.1
    c.args.at _ _ _ _ _ _ _ _ (omega (arith, c.requires)) c.in_ok-start.ensures.text c.put_byte.ensures.text
    c.put_time_of_day-end.ensures.text c.put_time_of_day-end.ensures.end c.put_zone.ensures.text c.put_zone.ensures.end
    (search rules) (search rules)

pub returns-in_err-start : goal.returns-in_err-start
returns-in_err-start c =
    rw c.from_residual.ensures
    (timestamp_lacks c.args.unit _ c.args.number (to_z w64 (of_z w64 c.day_and_time-day.result.0)) c.args.at _ _
    c.in_err-start.ensures.text (search rules))
