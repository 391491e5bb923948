use Rattle.std.proofs.Common.{◌≤◌, arith, length, refl}
use Rattle.ipc_text_temporal.proofs.Placed.{joined}
use Rattle.ipc_text_temporal.proofs.temporal.put_time_of_day.Goals as goal

pub returns-clause-text : goal.returns-clause-text
returns-clause-text c =
    let inside : c.args.at ≤ length c.args.text.now = omega (arith, c.requires.room) in
    let both = joined _ _ _ _ _ _ _ inside c.put_clock.ensures.text c.put_fraction.ensures.text refl in
    rw (← c.seconds_and_part-seconds.ensures.seconds, ← c.seconds_and_part-seconds.ensures.part) both
