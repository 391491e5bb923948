use Rattle.std.proofs.Common.{◌≡◌, subst, w64}
use Rattle.std.proofs.lemmas.Int.{to_z-of_z}
use Rattle.ipc_stream_session.specs.Writes.{RefusesInvalid}
use Rattle.ipc_stream_session.specs.declared.stage.Stage.TheVariants as stage
use Rattle.ipc_stream_session.specs.declared.write_session.WriteSession.{WriteSession}
use Rattle.ipc_stream_session.proofs.Invalid.{put_back, sends_refused}
use Rattle.ipc_stream_session.proofs.write_session.WriteSession.try_send_buffers.Goals as goal

pub returns-in-Err : goal.returns-in-Err
returns-in-Err c =
    let parts = rw (to_z-of_z w64 c.args.rows c.ranges.rows) at c.in_ok-head.ensures.parts in
    let taken = c.in_ok-table.ensures in
    let old = c.copy_parts.new.self in
    let back : record c.take_table.new.self { stage = stage.Open c.in_ok-table.table } ≡ old =
    rw taken.1 (put_back old c.in_ok-table.table taken.0) in
    let refused = subst (λ (s : WriteSession). RefusesInvalid c.in-Err.fault s c.invalid.new.self c.invalid.result) back
    c.invalid.ensures in
    rw (← c.in_ok-head.ensures.open) (sends_refused old c.invalid.new.self c.in_ok-table.table c.args.rows c.args.nodes.now
    c.args.buffers.now c.args.body.now c.in_ok-head.head c.in-Err.fault c.invalid.result taken.0 parts.0
    (rw parts.1 at c.in-Err.ensures.refused) refused)
