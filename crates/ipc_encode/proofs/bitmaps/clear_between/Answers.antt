use Rattle.std.proofs.Common.{◌≡◌, ◌∙◌, refl, ap, ◌≤◌, ℕ, Bool, true, false, cond, arith}
use Rattle.std.specs.Prelude.{not}
use Rattle.ipc_scalar.specs.Bytes.{bit}
use Rattle.ipc_encode.proofs.FirstSlots.{clear_next}
use Rattle.ipc_encode.proofs.bitmaps.clear_between.Goals as goal
use mir.Val.{bool_byte}

-- that a bit is clear, as a number
number : (set : Bool) → bool_byte (not set) ≡ cond set 0 1
number true = refl
number false = refl

one_at_most : (set : Bool) → cond {A = ℕ} set 0 1 ≤ 1
one_at_most true = omega arith
one_at_most false = omega arith

pub loop-slot-preserved : goal.loop-slot-preserved
loop-slot-preserved c =
    let set = bit c.args.bytes.now c.loop-slot.slot in
    let one : c.from-count.result ≡ cond {A = ℕ} set 0 1 =
    c.from-count.ensures ∙ (ap (λ (b : Bool). bool_byte (not b)) c.bit.ensures ∙ number set) in
    let next = clear_next c.args.bytes.now c.loop-slot.slot c.from-count.result one in
    record {
      counted = omega (arith, next, c.loop-slot.invariant.counted);
      few = omega (arith, one, one_at_most set, c.loop-slot.invariant.few);
    }
