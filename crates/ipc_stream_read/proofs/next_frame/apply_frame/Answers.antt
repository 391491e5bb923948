use Rattle.std.proofs.Common.{sym, subst, Some, Ok}
use Rattle.ipc_stream_read.specs.declared.event.Event.TheVariants as report
use Rattle.ipc_stream_read.specs.StreamStates.{Brings}
use Rattle.ipc_stream_read.specs.Scopes.{in_scope, state_of}
use Rattle.ipc_stream_read.proofs.Scoped.{first_brings}
use Rattle.ipc_stream_read.proofs.next_frame.apply_frame.Goals as goal

pub returns-in_ok-open_scope-in-None-clause-brings : goal.returns-in_ok-open_scope-in-None-clause-brings
returns-in_ok-open_scope-in-None-clause-brings c =
    subst (λ s. Brings c.args.limits.now (state_of s) c.args.frame (Some (in_scope c.in_ok-open_scope-in-None.field-0))
    (Ok (Some report.Schema))) (sym c.in-None.is)
    (first_brings c.args.limits.now c.args.frame c.in_ok-open_scope-in-None.field-0 c.in_ok-open_scope-in-None.ensures.scope)
