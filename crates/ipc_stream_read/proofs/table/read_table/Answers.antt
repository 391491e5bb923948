use Rattle.ipc_stream_read.proofs.Answered.{taken_denotes, answers_marked, answers_closed}
use Rattle.ipc_stream_read.proofs.table.read_table.Goals as goal

pub returns-clause-denotes : goal.returns-clause-denotes
returns-clause-denotes g c = taken_denotes _ _ _ c.read_messages.ensures.table

pub returns-clause-marked : goal.returns-clause-marked
returns-clause-marked g c = λ x rest t is d none.
    answers_marked _ _ _ _ _ c.read_messages.ensures.table none c.read_messages.ensures.failures x rest t is d

pub returns-clause-closed : goal.returns-clause-closed
returns-clause-closed g c = λ x t is d none.
    answers_closed _ _ _ _ _ c.read_messages.ensures.table none c.read_messages.ensures.failures x t is d
