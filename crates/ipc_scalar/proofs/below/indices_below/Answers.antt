use Rattle.std.proofs.Common.{ℕ, ◌<◌, get_or, arith}
use Rattle.ipc_scalar.proofs.Indices.{tells_8, tells_16, tells_32, tells_64, last_width}
use Rattle.ipc_scalar.proofs.below.indices_below.Goals as goal

pub returns-in-8 : goal.returns-in-8
returns-in-8 c =
    let small : (k : ℕ) → get_or c.args.bytes.now k 0 < 256 = λ k. omega (arith, c.type_inv.bytes k) in
    tells_8 c.args.bits c.args.signed c.args.n c.args.limit _ _ _ c.args.bytes.now _ c.in-8.is c.if-limit-eq0.false c.requires.inside
    c.from-2.ensures
    c.from.ensures c.min-most.ensures small c.each_at_most.ensures

pub returns-in-16 : goal.returns-in-16
returns-in-16 c =
    let small : (k : ℕ) → get_or c.args.bytes.now k 0 < 256 = λ k. omega (arith, c.type_inv.bytes k) in
    tells_16 c.args.bits c.args.signed c.args.n c.args.limit _ _ _ c.args.bytes.now _ c.in-16.is c.if-limit-eq0.false c.requires.inside
    c.from-2.ensures
    c.from.ensures c.min-most.ensures small c.each_at_most-in-16.ensures

pub returns-in-32 : goal.returns-in-32
returns-in-32 c =
    let small : (k : ℕ) → get_or c.args.bytes.now k 0 < 256 = λ k. omega (arith, c.type_inv.bytes k) in
    tells_32 c.args.bits c.args.signed c.args.n c.args.limit _ _ _ c.args.bytes.now _ c.in-32.is c.if-limit-eq0.false c.requires.inside
    c.from-2.ensures
    c.from.ensures c.min-most.ensures small c.each_at_most-in-32.ensures

pub returns-in_default : goal.returns-in_default
returns-in_default c =
    let small : (k : ℕ) → get_or c.args.bytes.now k 0 < 256 = λ k. omega (arith, c.type_inv.bytes k) in
    tells_64 c.args.bits c.args.signed c.args.n c.args.limit _ _ _ c.args.bytes.now _ (last_width c.args.bits c.requires.width (λ e.
    omega (arith, e)) (λ e. omega (arith, e)) (λ e. omega (arith, e))) c.if-limit-eq0.false c.requires.inside c.from-2.ensures
    c.from.ensures c.min-most.ensures small c.each_at_most-in_default.ensures
