use Rattle.std.proofs.Common.{arith}
use Rattle.std.specs.Int.{w16}
use Rattle.ipc_scalar.proofs.Blocks.{all_of}
use Rattle.ipc_scalar.proofs.lanes.U16x32Lanes.are_at_most.Goals as goal

pub returns : goal.returns
returns c = all_of w16 c.args.most 32 c.args.self c.fits-self.0 (omega arith)
