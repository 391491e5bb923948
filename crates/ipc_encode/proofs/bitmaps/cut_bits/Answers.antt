use Rattle.std.proofs.Common.{◌∙◌, ap, ℕ, ◌/◌, List, length, get_or, arith}
use Rattle.ipc_encode.proofs.FirstSlots.{bits_cut, bytes_cut}
use Rattle.ipc_encode.proofs.bitmaps.cut_bits.Goals as goal

pub returns-then-place-len-clause-cut : goal.returns-then-place-len-clause-cut
returns-then-place-len-clause-cut c = λ flags more size packed.
    let same = c.truncate.ensures.items in
    let long = ap (λ (bs : List ℕ). length bs) same in
    rw same (bits_cut flags more c.args.bits c.args.bytes.now.items c.div_ceil.result c.index_mut.result.now c.index_mut.result.now size
    packed (omega (arith, c.div_ceil.ensures)) (omega (arith, c.if-place-len.true, c.len.ensures, c.truncate.new.self.ok, long))
    (c.index_mut.ensures.value ∙ ap (λ (bs : List ℕ). get_or bs (c.args.bits / 8) c.index_mut.result.now) same))

pub returns-else-place-len-clause-cut : goal.returns-else-place-len-clause-cut
returns-else-place-len-clause-cut c = λ flags more size packed.
    let same = c.truncate.ensures.items in
    let long = ap (λ (bs : List ℕ). length bs) same in
    same ∙ bytes_cut flags more c.args.bits c.args.bytes.now.items c.div_ceil.result size packed (omega (arith, c.div_ceil.ensures))
    (omega (arith, c.if-place-len.false, c.len.ensures, c.truncate.new.self.ok, long))
