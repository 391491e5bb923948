use Rattle.std.proofs.Common.{refl}
use Rattle.ipc_stream_read.proofs.Calls.{opens_fails, opens_schema}
use Rattle.ipc_stream_read.proofs.Readers.{opened_held, opened_ready, opens_some, opens_stopped, opens_within, stopped_held}
use Rattle.ipc_stream_read.proofs.reader.StreamReader.open_within.Goals as goal

pub invariant_of-result : goal.invariant_of-result
invariant_of-result g c =
    let r = opened_ready _ _ _ 0 _ _ _ _ c.pull_within.ensures.limits c.new-decoder.ensures.limits c.new-decoder.ensures.state
    c.new-decoder.ensures.messages _ _ c.pull_within.result _ c.in-Ok.is c.pull_within.ensures.pulled c.pull_within.ensures.failures in
    (r.is_open, (r.between, (r.works, (r.counted, (r.taken_counted, tt)))))

pub returns-in-Ok-clause-fewer : goal.returns-in-Ok-clause-fewer
returns-in-Ok-clause-fewer g c =
    c.in-Ok.ensures.fewer (opens_some _ _ _ 0 _ _ _ _ c.pull_within.ensures.limits c.new-decoder.ensures.limits
    c.new-decoder.ensures.state c.new-decoder.ensures.messages c.pull_within.result _ c.in-Ok.is c.pull_within.ensures.pulled)

pub returns-in-Ok-clause-opened : goal.returns-in-Ok-clause-opened
returns-in-Ok-clause-opened g c =
    opens_within _ _ _ 0 _ _ _ _ c.pull_within.ensures.limits c.new-decoder.ensures.limits c.new-decoder.ensures.state
    c.new-decoder.ensures.messages _ _ c.pull_within.result _ c.in-Ok.is refl c.pull_within.ensures.pulled

pub returns-in-Ok-clause-schema : goal.returns-in-Ok-clause-schema
returns-in-Ok-clause-schema g c = λ x rest s is begins.
    opens_schema _ _ x rest s (opens_within _ _ _ 0 _ _ _ _ c.pull_within.ensures.limits c.new-decoder.ensures.limits
    c.new-decoder.ensures.state c.new-decoder.ensures.messages 0 0 c.pull_within.result _ c.in-Ok.is refl
    c.pull_within.ensures.pulled) is begins

pub returns-in-Ok-clause-held : goal.returns-in-Ok-clause-held
returns-in-Ok-clause-held g c =
    opened_held _ _ _ 0 _ _ _ _ c.pull_within.ensures.limits c.new-decoder.ensures.limits c.new-decoder.ensures.state
    c.new-decoder.ensures.messages _ _ c.pull_within.result _ c.in-Ok.is c.pull_within.ensures.pulled

pub returns-in-Err-clause-refused : goal.returns-in-Err-clause-refused
returns-in-Err-clause-refused g c =
    opens_stopped _ _ _ 0 _ _ _ _ c.pull_within.ensures.limits c.new-decoder.ensures.limits c.new-decoder.ensures.state
    c.new-decoder.ensures.messages c.pull_within.result _ c.in-Err.is c.pull_within.ensures.pulled

pub returns-in-Err-clause-schema : goal.returns-in-Err-clause-schema
returns-in-Err-clause-schema g c = λ x rest s is begins.
    opens_fails _ _ _ x rest s (returns-in-Err-clause-refused g c) is begins

pub returns-in-Err-clause-held : goal.returns-in-Err-clause-held
returns-in-Err-clause-held g c =
    stopped_held _ _ _ 0 _ _ _ _ c.pull_within.ensures.limits c.new-decoder.ensures.limits c.new-decoder.ensures.state
    c.new-decoder.ensures.messages c.pull_within.result _ c.in-Err.is c.pull_within.ensures.pulled
