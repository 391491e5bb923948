use Rattle.std.proofs.Common.{arith}
use Rattle.ipc_frame.proofs.Held.{comes_in}
use Rattle.ipc_frame.proofs.message_prefix.MessagePrefix.read.Goals as goal

pub returns-clause-comes : goal.returns-clause-comes
returns-clause-comes g c =
    rw (← c.self.view_is)
    (comes_in _ _ c.self.inside.bytes c.read_after.new.buffer c.self.inside.len c.args.wanted c.args.wanted c.in_ok-count.count
    c.in_ok-count.ensures.few (omega arith) c.in_ok-count.ensures.behind)
