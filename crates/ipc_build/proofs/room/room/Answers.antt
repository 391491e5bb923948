use Rattle.std.proofs.Common.{sym, arith}
use Rattle.ipc_build.specs.Trees.{view}
use Rattle.ipc_build.proofs.RoomSteps.{counts_at, room_is}
use Rattle.ipc_build.proofs.room.room.Goals as goal

pub returns-then-greatest-lt16 : goal.returns-then-greatest-lt16
returns-then-greatest-lt16 c =
    let r = room_is (view c.args.tree.now) in
    omega (arith, r, c.if-greatest-lt16.true)

pub returns : goal.returns
returns c = counts_at _ _ _ _ _ c.table_room.result (sym (room_is (view c.args.tree.now))) (λ f. f) c.table_room.ensures
