use Rattle.std.proofs.Common.{◌∙◌, ap}
use Rattle.ipc_stream.specs.Canonical.{flat}
use Rattle.ipc_stream_session.proofs.Pairs.{more_pairs, odd_numbers}
use Rattle.ipc_stream_session.proofs.parts.pairs_of.Goals as goal

pub loop-at-preserved : goal.loop-at-preserved
loop-at-preserved c = ap flat c.in_ok-push.ensures.items ∙ more_pairs _ _ _ _ c.loop-at.invariant c.pair_at.ensures

pub returns-then-numbers-eq1 : goal.returns-then-numbers-eq1
returns-then-numbers-eq1 c = λ pairs same. odd_numbers pairs c.args.numbers.now c.if-numbers-eq1.true same
