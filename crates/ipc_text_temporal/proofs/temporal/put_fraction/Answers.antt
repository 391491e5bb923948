use Rattle.std.proofs.Common.{◌≤◌, arith, length, refl}
use Rattle.ipc_text_temporal.proofs.Placed.{joined}
use Rattle.ipc_text_temporal.proofs.temporal.put_fraction.Goals as goal

pub returns-in-Microsecond-clause-text : goal.returns-in-Microsecond-clause-text
returns-in-Microsecond-clause-text c =
    let inside : c.args.at ≤ length c.args.text.now = omega (arith, c.requires.room) in
    let two = joined _ _ _ _ _ _ _ inside c.put_byte-in-Microsecond.ensures.text c.put_three_digits-in-Microsecond.ensures.text refl in
    let three = joined _ _ _ _ _ _ _ inside two c.put_three_digits-in-Microsecond-2.ensures.text refl in
    rw c.in-Microsecond.is three

pub returns-in-Nanosecond-clause-text : goal.returns-in-Nanosecond-clause-text
returns-in-Nanosecond-clause-text c =
    let inside : c.args.at ≤ length c.args.text.now = omega (arith, c.requires.room) in
    let two = joined _ _ _ _ _ _ _ inside c.put_byte-in-Nanosecond.ensures.text c.put_three_digits-in-Nanosecond.ensures.text refl in
    let three = joined _ _ _ _ _ _ _ inside two c.put_three_digits-in-Nanosecond-2.ensures.text refl in
    let four = joined _ _ _ _ _ _ _ inside three c.put_three_digits-in-Nanosecond-3.ensures.text refl in
    rw c.in-Nanosecond.is four
