use Rattle.std.proofs.Common.{◌∙◌, ◌-◌, ◌*◌, ◌/◌, ◌%◌, ◌^◌, ◌++◌, [], ◌∷◌, List, ℕ, ap, refl}
use Rattle.ipc_encode.proofs.Bits.{filled, set_whole, set_part}
use Rattle.ipc_encode.proofs.bitmaps.set_bits.Goals as goal

pub returns-in_ok-push : goal.returns-in_ok-push
returns-in_ok-push c = λ none.
    let all = filled c.args.bytes.now.items c.resize.new.self.items
    (c.args.bits / 8) _ none c.args.bytes.now.ok.0 c.in_ok-resize.ensures.items in
    c.in_ok-push.ensures.items
    ∙ (ap (λ (bs : List ℕ). bs ++ (1 * 2 ^ (c.args.bits % 8) % 256 - 1) ∷ []) all ∙ set_part c.args.bits _ c.if-bits-ne0.true refl)

pub returns-else-bits-ne0 : goal.returns-else-bits-ne0
returns-else-bits-ne0 c = λ none.
    filled c.args.bytes.now.items c.resize.new.self.items (c.args.bits / 8) _ none c.args.bytes.now.ok.0 c.in_ok-resize.ensures.items
    ∙ set_whole c.args.bits c.if-bits-ne0.false
