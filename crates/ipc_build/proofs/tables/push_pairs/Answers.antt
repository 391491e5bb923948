use Rattle.std.proofs.Common.{get_or, pos, arith}
use Rattle.ipc_build.proofs.Pieces.{pairs_more, pairs_done}
use Rattle.ipc_build.proofs.Views.{same_or}
use Rattle.ipc_build.proofs.tables.push_pairs.Goals as goal

pub loop-pair-preserved : goal.loop-pair-preserved
loop-pair-preserved c = pairs_more c.args.pairs.now c.loop-pair.pair-index (get_or c.args.pairs.now c.loop-pair.pair-index (pos 0, pos 0))
    (same_or c.args.pairs.now c.loop-pair.pair-index _ _ c.loop-pair-test.true) c.loop-pair-test.true c.loop-pair.out.items
    c.push_pair.new.out.items _ c.in_ok-push_pair.ensures c.loop-pair.invariant

pub returns : goal.returns
returns c = pairs_done c.args.pairs.now c.loop-pair.pair-index c.loop-pair.out.items _ (omega arith) c.loop-pair.invariant
