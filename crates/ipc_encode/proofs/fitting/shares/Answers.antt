use Rattle.std.proofs.Common.{arith}
use Rattle.ipc_encode.proofs.Shares.{share_fits}
use Rattle.ipc_encode.proofs.fitting.shares.Goals as goal

pub returns-clause-short : goal.returns-clause-short
returns-clause-short c = share_fits c.args.columns c.max.result c.args.limits.now.body _
    (omega (arith, c.max.ensures)) (omega (arith, c.min.ensures))
