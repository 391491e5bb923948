use Rattle.std.proofs.Common.{◌≡◌, ◌∙◌, sym, subst, ℕ, ◌<◌, length, get_or, false, inl, inr, arith}
use Rattle.std.proofs.lemmas.Bool.{cases_eq}
use Rattle.std.proofs.lemmas.Option.{slice_get-get_or}
use Rattle.ipc_model.specs.declared.value.Value.TheVariants.{Null}
use Rattle.ipc_column.specs.Nested.{slot_values}
use Rattle.ipc_column.specs.Slots.{is_null}
use Rattle.ipc_conform.proofs.conforming.has_no_null.Goals as goal

pub loop-slot-preserved : goal.loop-slot-preserved
loop-slot-preserved c = λ i m.
    let vs = slot_values c.args.view.now in
    let k = c.loop-slot.slot in
    let inside : k < length vs = omega (arith, c.loop-slot-test.true, c.loop-slot.auto.slot-end, c.len-slot-end.ensures) in
    elim (cases_eq i k) as (λ _. is_null (get_or vs i Null) ≡ false) [
      | inl same ↦ subst (λ (j : ℕ). is_null (get_or vs j Null) ≡ false) (sym same)
          (sym (c.is_null.ensures (get_or vs k Null) (slice_get-get_or vs k Null inside)) ∙ c.if-is_null.false)
      | inr other ↦ c.loop-slot.invariant i (omega (arith, m, other))
    ]

pub returns : goal.returns
returns c = λ yes i m. c.loop-slot.invariant i (omega (arith, m, c.loop-slot-test.false, c.len-slot-end.ensures))
