use Rattle.std.proofs.Common.{arith}
use Rattle.std.specs.Int.{w8}
use Rattle.ipc_scalar.proofs.Blocks.{all_of}
use Rattle.ipc_scalar.proofs.lanes.U8x64Lanes.are_at_most.Goals as goal

pub returns : goal.returns
returns c = all_of w8 c.args.most 64 c.args.self c.fits-self.0 (omega arith)
