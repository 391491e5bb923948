use Rattle.std.proofs.Common.{ap, Err}
use Rattle.ipc_stream_read.proofs.Readers.{counts_fault, no_maximum}
use Rattle.ipc_stream_read.proofs.source_reading.pull.Goals as goal

pub fault-requires : goal.fault-requires
fault-requires g c = λ held. no_maximum _ _ (c.in-Err.ensures.pulled.1.above (ap Err held))

pub returns-in-Ok-clause-pulled : goal.returns-in-Ok-clause-pulled
returns-in-Ok-clause-pulled g c = c.in-Ok.ensures.pulled.0

pub returns-in-Err-clause-pulled : goal.returns-in-Err-clause-pulled
returns-in-Err-clause-pulled g c = rw c.fault.ensures c.in-Err.ensures.pulled.0

pub returns-in-Err-clause-failures : goal.returns-in-Err-clause-failures
returns-in-Err-clause-failures g c =
    rw c.fault.ensures (counts_fault _ _ c.in-Err.stop (λ held. no_maximum _ _ (c.in-Err.ensures.pulled.1.above (ap Err held)))
    c.in-Err.ensures.failures)
