use Rattle.std.proofs.Common.{get_or, pos, refl, arith, rules}
use Rattle.ipc_build.proofs.Views.{same_or}
use Rattle.ipc_build.proofs.RoomSteps.{counts_plain, pairs_range_more, pairs_range_done}
use Rattle.ipc_build.proofs.room.pairs_room.Goals as goal

pub loop-first-preserved : goal.loop-first-preserved
loop-first-preserved c =
    let pairs = c.args.pairs.now in
    let i = c.loop-first._first-index in
    pairs_range_more pairs i (get_or pairs i (pos 0, pos 0))
    (same_or pairs i _ _ c.loop-first-test.true) c.loop-first-test.true c.loop-first.invariant (search rules) (search rules)

pub returns : goal.returns
returns c = counts_plain _ _ _ _ c.add.result refl
    (c.loop-first.invariant (pairs_range_done c.args.pairs.now c.loop-first._first-index (omega arith))) c.add.ensures
