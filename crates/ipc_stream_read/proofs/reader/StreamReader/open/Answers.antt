use Rattle.std.proofs.Common.{refl}
use Rattle.ipc_stream_read.proofs.Readers.{counts_fault, has_maximum}
use Rattle.ipc_stream_read.proofs.reader.StreamReader.open.Goals as goal

pub fault-requires : goal.fault-requires
fault-requires g c = λ held. has_maximum _ _ _ _ c.in-Err.ensures.held held refl

pub returns-in-Err-clause-refused : goal.returns-in-Err-clause-refused
returns-in-Err-clause-refused g c = rw c.fault.ensures c.in-Err.ensures.refused

pub returns-in-Err-clause-failures : goal.returns-in-Err-clause-failures
returns-in-Err-clause-failures g c =
    rw c.fault.ensures (counts_fault _ _ c.in-Err.stop (λ held. has_maximum _ _ _ _ c.in-Err.ensures.held held refl)
    c.in-Err.ensures.failures)

pub returns-in-Err-clause-schema : goal.returns-in-Err-clause-schema
returns-in-Err-clause-schema g c = λ x rest s is begins. rw c.fault.ensures (c.in-Err.ensures.schema x rest s is begins)
