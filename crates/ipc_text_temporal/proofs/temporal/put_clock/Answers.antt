use Rattle.std.proofs.Common.{arith}
use Rattle.ipc_text_temporal.proofs.Placed.{clock_placed}
use Rattle.ipc_text_temporal.proofs.temporal.put_clock.Goals as goal

pub returns-clause-text : goal.returns-clause-text
returns-clause-text c =
    clock_placed c.args.at _ _ _ _ _ _ _ _ _ (omega (arith, c.requires.room)) c.put_two_digits.ensures.text c.put_byte.ensures.text
    c.put_two_digits-2.ensures.text c.put_byte-2.ensures.text c.put_two_digits-3.ensures.text
