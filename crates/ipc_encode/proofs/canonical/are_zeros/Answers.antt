use Rattle.std.proofs.Common.{arith}
use Rattle.ipc_encode.proofs.LentBuffers.{all_zero}
use Rattle.ipc_encode.proofs.canonical.are_zeros.Goals as goal

pub returns : goal.returns
returns c = λ _. all_zero c.args.bytes.now
    (λ k m. c.loop-byte.invariant k (omega (arith, m, c.loop-byte-test.false, c.loop-byte.auto.byte-index-end)))
