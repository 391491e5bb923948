use Rattle.std.proofs.Common.{w64}
use Rattle.std.proofs.lemmas.Int.{to_z-of_z}
use Rattle.ipc_stream_session.proofs.Given.{given}
use Rattle.ipc_stream_session.proofs.open_table.OpenTable.give.Goals as goal

pub returns : goal.returns
returns c = rw (← c.self.view_is) (given c.self.inside.stream c.self.inside.scope c.set.new.self c.args.id c.args.head c.args.body.items
    c.set.result (rw (to_z-of_z w64 c.args.id c.ranges.id) at c.set.ensures.sets) c.set.ensures.limits)
