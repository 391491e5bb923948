use Rattle.std.proofs.Common.{sym, ◌∙◌}
use Rattle.std.specs.Int.{w32}
use Rattle.ipc_scalar.proofs.Blocks.{larger_of}
use Rattle.ipc_scalar.proofs.lanes.U32x16Lanes.larger.Goals as goal

pub returns : goal.returns
returns c = λ most. larger_of w32 most c.args.self c.args.other (c.fits-self.0 ∙ sym c.fits-other.0)
