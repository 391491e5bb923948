use Rattle.std.proofs.Common.{arith}
use Rattle.std.proofs.lemmas.List.{take-replicate}
use Rattle.ipc_encode.proofs.segments.zeros.Goals as goal

pub returns : goal.returns
returns c = take-replicate c.args.count 255 0 (omega (arith, c.ranges.count.fits))
