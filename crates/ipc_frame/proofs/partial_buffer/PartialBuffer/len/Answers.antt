use Rattle.std.proofs.Common.{arith, length-take}
use Rattle.ipc_frame.proofs.partial_buffer.PartialBuffer.len.Goals as goal

pub returns-clause-len : goal.returns-clause-len
returns-clause-len c =
    omega (arith, length-take c.args.self.now.len c.args.self.now.buffer.items, c.args.self.now.within, c.args.self.now.buffer.ok.0)

pub returns-clause-small : goal.returns-clause-small
returns-clause-small c = omega (arith, c.args.self.now.within, c.args.self.now.buffer.ok.1, c.args.self.now.buffer.small)
