use Rattle.ipc_scalar.proofs.Blocks.{lanes_of_bytes}
use Rattle.ipc_scalar.proofs.lanes.U8x64Lanes.of.Goals as goal

pub returns : goal.returns
returns c = λ most. lanes_of_bytes most c.args.block.now c.requires
