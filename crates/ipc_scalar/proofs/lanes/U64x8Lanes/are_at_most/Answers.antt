use Rattle.std.proofs.Common.{arith}
use Rattle.std.specs.Int.{w64}
use Rattle.ipc_scalar.proofs.Blocks.{all_of}
use Rattle.ipc_scalar.proofs.lanes.U64x8Lanes.are_at_most.Goals as goal

pub returns : goal.returns
returns c = all_of w64 c.args.most 8 c.args.self c.fits-self.0 (omega arith)
