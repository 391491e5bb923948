use Rattle.std.proofs.Common.{ℕ, ◌<◌, get_or, refl, arith}
use Rattle.ipc_scalar.proofs.Blocks.{lanes_of}
use Rattle.ipc_scalar.proofs.lanes.U16x32Lanes.of.Goals as goal

pub returns : goal.returns
returns c = λ most.
    let small : (k : ℕ) → get_or c.args.block.now k 0 < 256 = λ k. omega (arith, c.type_inv.block k) in
    lanes_of 2 32 most c.args.block.now refl c.requires small
