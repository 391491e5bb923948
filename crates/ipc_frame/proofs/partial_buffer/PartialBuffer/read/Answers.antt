use Rattle.std.proofs.Common.{ap, arith, length, ◌∙◌}
use Rattle.ipc_frame.proofs.Held.{behind_whole, comes_in}
use Rattle.ipc_frame.proofs.partial_buffer.PartialBuffer.read.Goals as goal

pub returns-clause-comes : goal.returns-clause-comes
returns-clause-comes g c =
    let buffer = c.make_place.new.self.buffer in
    rw (← c.in_ok-make_place.ensures.came)
    (comes_in _ _ buffer.items _ c.make_place.new.self.len c.min-room.result c.args.wanted
    c.in_ok-count.count c.in_ok-count.ensures.few (omega (arith, c.min-room.ensures))
    (behind_whole _ _ _ _ _ _ _ _ (c.read_after.ensures.same ∙ ap length c.deref_mut.ensures.value) buffer.ok.0
    c.deref_mut.ensures.value c.in_ok-count.ensures.behind))
