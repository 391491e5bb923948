use Rattle.std.proofs.Common.{sym, ◌∙◌}
use Rattle.std.specs.Int.{w64}
use Rattle.ipc_scalar.proofs.Blocks.{larger_of}
use Rattle.ipc_scalar.proofs.lanes.U64x8Lanes.larger.Goals as goal

pub returns : goal.returns
returns c = λ most. larger_of w64 most c.args.self c.args.other (c.fits-self.0 ∙ sym c.fits-other.0)
