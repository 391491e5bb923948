use Rattle.std.proofs.Common.{rules}
use Rattle.ipc_stream.proofs.Replaced.{all_pairs, more_pairs, room_for_pair}
use Rattle.ipc_stream.proofs.canonical.put_pairs.Goals as goal

pub loop-pair-preserved : goal.loop-pair-preserved
loop-pair-preserved c = more_pairs c.args.pairs.now c.loop-pair.pair-index c.args.at c.loop-pair.place _ _ _ (search rules)
    c.loop-pair.invariant.0 c.loop-pair.invariant.1 c.put_pair.ensures

pub returns : goal.returns
returns c = all_pairs c.args.pairs.now c.loop-pair.pair-index c.args.at c.loop-pair.place _ _ (search rules) c.loop-pair.invariant.0

pub put_pair-requires : goal.put_pair-requires
put_pair-requires c = room_for_pair c.args.pairs.now c.loop-pair.pair-index c.loop-pair.place c.loop-pair.target (search rules)
    c.loop-pair.invariant.1
