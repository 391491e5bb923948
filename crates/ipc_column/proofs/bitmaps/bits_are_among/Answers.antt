use Rattle.ipc_column.proofs.Among.{among_next}
use Rattle.ipc_column.proofs.bitmaps.bits_are_among.Goals as goal

pub loop-i-preserved : goal.loop-i-preserved
loop-i-preserved c = among_next c.args.few.now c.args.many.now c.loop-i.i c.if-few-i.false c.loop-i.invariant
