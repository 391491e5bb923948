use Rattle.ipc_stream_read.proofs.Calls.{next_batch, next_end}
use Rattle.ipc_stream_read.proofs.reader.StreamReader.next.Goals as goal

pub returns-in-Err-clause-next : goal.returns-in-Err-clause-next
returns-in-Err-clause-next g c = rw c.fault.ensures c.in-Err.ensures.next

pub returns-in-Err-clause-batch : goal.returns-in-Err-clause-batch
returns-in-Err-clause-batch g c = λ x rest rows reading is adds.
    next_batch _ _ _ x rest rows (returns-in-Err-clause-next g c) reading is adds

pub returns-in-Err-clause-ended : goal.returns-in-Err-clause-ended
returns-in-Err-clause-ended g c = λ x z o end reading is sets begins.
    next_end _ _ _ x z o end (returns-in-Err-clause-next g c) reading is sets begins

pub returns-in-Ok-clause-batch : goal.returns-in-Ok-clause-batch
returns-in-Ok-clause-batch g c = λ x rest rows reading is adds. next_batch _ _ _ x rest rows c.in-Ok.ensures.next reading is adds

pub returns-in-Ok-clause-ended : goal.returns-in-Ok-clause-ended
returns-in-Ok-clause-ended g c = λ x z o end reading is sets begins. next_end _ _ _ x z o end c.in-Ok.ensures.next reading is sets begins
