use Rattle.std.proofs.Common.{◌*◌, ◌%◌, ◌^◌, arith}
use Rattle.std.proofs.Math.Nat.{mod-le}
use Rattle.std.proofs.lemmas.Bool.{ltb-true}
use Rattle.ipc_encode.proofs.Bits.{first_bits}
use Rattle.ipc_encode.proofs.canonical.unused_bits_are_zeros.Goals as goal

pub returns-then-count-eq0 : goal.returns-then-count-eq0
returns-then-count-eq0 c = λ _ flags size same.
    first_bits c.args.bits.now flags c.args.count size c.requires (λ k. omega (arith, c.type_inv.bits k))
    (λ some. absurd (omega (arith, some, c.if-count-eq0.true))) same

pub returns-else-count-eq0 : goal.returns-else-count-eq0
returns-else-count-eq0 c = λ under flags size same.
    let most = mod-le (1 * 2 ^ (c.args.count % 8)) 256 in
    let few = ltb-true _ _ under in
    first_bits c.args.bits.now flags c.args.count size c.requires (λ k. omega (arith, c.type_inv.bits k))
    (λ _. omega (arith, few, most)) same
