use Rattle.std.proofs.Common.{arith}
use Rattle.ipc_encode.proofs.Bits.{put_bit, new_byte}
use Rattle.ipc_encode.proofs.bitmaps.push_bit.Goals as goal

pub returns-then-place-len : goal.returns-then-place-len
returns-then-place-len c = λ flags size packed.
    rw c.from.ensures (put_bit flags c.args.bits c.args.bit c.args.bytes.now.items c.index_mut.result.now _ size packed
    (omega (arith, c.len.ensures, c.args.bytes.now.ok.0)) c.index_mut.ensures.value)

pub returns : goal.returns
returns c = λ flags size packed.
    rw (c.in_ok-push.ensures.items, c.from-2.ensures)
    (new_byte flags c.args.bits c.args.bit c.args.bytes.now.items size packed (omega (arith, c.len.ensures, c.args.bytes.now.ok.0)))
